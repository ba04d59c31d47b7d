-- `cache::tried` meets its contract.
use mathlib.Core.Path.{refl, ◌∙◌}
use native.Mathlib.Omega.{arith}
use Rattle.std.proofs.lemmas.Result.{err_from_is_err_and}
use Rattle.command.proofs.RefusalLaws.{number_some}
use Rattle.domains.specs.Domains.{domain_of, policies}
use Rattle.geometry.proofs.GeometryLaws.{sizes_passed}
use Rattle.verdict.proofs.RefusalLaws.{by_sizes, by_domain_lem}
use Rattle.steps.specs.Tables.{lengths}
use Rattle.steps.specs.Step.{drops_of, tables_of}
use Rattle.steps.proofs.SetLaws.{shaped}
use Rattle.steps.proofs.StepLaws.{step_refused, step_line, step_policy, step_unknown}
use Rattle.cache.specs.Inside.{deed_in}
use Rattle.cache.proofs.OutcomeLaws.{outcome_settled}
use Rattle.cache.proofs.tried.Goals as goal

pub returns-in_err-sizes-clause-step : goal.returns-in_err-sizes-clause-step
returns-in_err-sizes-clause-step c =
    let lent = tables_of c.args.tags.now c.args.valid.now c.args.dirty.now c.args.words.now in
    let ds = c.args.domains.now in
    let drops = drops_of c.args.g c.args.domain c.args.argument (record { tables = lent; domains = ds }) in
    let some = number_some c.in_err-sizes.field-0.0 in
    let p = err_from_is_err_and c.from_residual.result c.from_residual.ensures.1 in
    rw (p.1, p.2)
    (step_refused c.args.g c.args.domain c.args.kind c.args.argument lent ds
    (by_sizes c.args.g (lengths lent) (policies c.args.g.ways ds) (domain_of ds c.args.domain).counts drops
    c.args.domain c.args.kind c.args.argument c.in_err-sizes.ensures some)
    some)

pub returns-then-domain-ge16-clause-step : goal.returns-then-domain-ge16-clause-step
returns-then-domain-ge16-clause-step c =
    let lent = tables_of c.args.tags.now c.args.valid.now c.args.dirty.now c.args.words.now in
    let ds = c.args.domains.now in
    let drops = drops_of c.args.g c.args.domain c.args.argument (record { tables = lent; domains = ds }) in
    step_refused c.args.g c.args.domain c.args.kind c.args.argument lent ds
    (by_domain_lem c.args.g (lengths lent) (policies c.args.g.ways ds) (domain_of ds c.args.domain).counts drops
    c.args.domain c.args.kind c.args.argument c.in_ok-sizes.ensures refl c.if-domain-ge16.true)
    (λ e. omega arith)

pub line-done-requires : goal.line-done-requires
line-done-requires c =
    let lent = tables_of c.args.tags.now c.args.valid.now c.args.dirty.now c.args.words.now in
    let passed = sizes_passed c.args.g (lengths lent) c.in_ok-sizes.ensures refl in
    shaped c.args.g lent passed.0 passed.1

pub policy-done-requires : goal.policy-done-requires
policy-done-requires c =
    let lent = tables_of c.args.tags.now c.args.valid.now c.args.dirty.now c.args.words.now in
    let passed = sizes_passed c.args.g (lengths lent) c.in_ok-sizes.ensures refl in
    shaped c.args.g lent passed.0 passed.1

pub returns-in-Line-clause-step : goal.returns-in-Line-clause-step
unfolding domain_of
returns-in-Line-clause-step c =
    let lent = tables_of c.args.tags.now c.args.valid.now c.args.dirty.now c.args.words.now in
    let left = tables_of c.line-done.new.tags c.line-done.new.valid c.line-done.new.dirty c.line-done.new.words in
    let ds = c.args.domains.now in
    let passed = sizes_passed c.args.g (lengths lent) c.in_ok-sizes.ensures refl in
    outcome_settled c.args.domain ds c.line-done.result left c.settled.ensures
    ∙ step_line c.args.g c.args.domain c.args.kind c.args.argument lent ds (shaped c.args.g lent passed.0 passed.1)
    c.kind_of-asked.result c.kind_of-asked.ensures c.in_ok-sizes.ensures refl c.if-domain-ge16.false
    _ {deed = deed_in (domain_of ds c.args.domain) c.line-done.result left} c.in-Line.is c.line-done.ensures

pub returns-in-Policy-clause-step : goal.returns-in-Policy-clause-step
unfolding domain_of
returns-in-Policy-clause-step c =
    let lent = tables_of c.args.tags.now c.args.valid.now c.args.dirty.now c.args.words.now in
    let left = tables_of c.policy-done.new.tags c.policy-done.new.valid c.policy-done.new.dirty c.policy-done.new.words in
    let ds = c.args.domains.now in
    let passed = sizes_passed c.args.g (lengths lent) c.in_ok-sizes.ensures refl in
    outcome_settled c.args.domain ds c.policy-done.result left c.settled-in-Policy.ensures
    ∙ step_policy c.args.g c.args.domain c.args.kind c.args.argument lent ds (shaped c.args.g lent passed.0 passed.1)
    c.kind_of-asked.result c.kind_of-asked.ensures c.in_ok-sizes.ensures refl c.if-domain-ge16.false
    {deed = deed_in (domain_of ds c.args.domain) c.policy-done.result left} c.in-Policy.is c.policies_of-policies.ensures c.policy-done.ensures

pub returns-in-Unknown-clause-step : goal.returns-in-Unknown-clause-step
returns-in-Unknown-clause-step c =
    let lent = tables_of c.args.tags.now c.args.valid.now c.args.dirty.now c.args.words.now in
    step_unknown c.args.g c.args.domain c.args.kind c.args.argument lent c.args.domains.now
    c.kind_of-asked.result c.kind_of-asked.ensures c.in_ok-sizes.ensures refl c.if-domain-ge16.false c.in-Unknown.is
