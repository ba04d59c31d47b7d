-- A step of one domain on a block: turned down, or done and the domain's record put back.
use Rattle.std.proofs.Common.{◌≡◌, ℕ, false, List, sym, refl, ap, ◌∙◌}
use Rattle.policy.specs.Policy.{as_read, new_maps}
use Rattle.policy.specs.declared.Maps.{Maps}
use Rattle.command.specs.declared.Answer.{Answer}
use Rattle.command.specs.declared.Answer.TheVariants.{Policy, Refused}
use Rattle.command.specs.declared.LineUse.{LineUse}
use Rattle.sweep.specs.Sweep.{sweep_of}
use Rattle.sweep.specs.declared.Sweep.{Sweep}
use Rattle.sweep.specs.declared.Drops.{Drops}
use Rattle.domains.specs.Domains.{domain_of, maps_of, put_domain, used_domain, new_domain, overflows}
use Rattle.domains.specs.Calls.{policies_of, used_of, changed_of}
use Rattle.domains.specs.declared.Domain.{Domain}
use Rattle.domains.specs.declared.Policies.{Policies}
use Rattle.verdict.specs.Refusal.{use_refusal}
use Rattle.verdict.specs.Calls.{policy_refusal_of}
use Rattle.geometry.specs.declared.Geometry.{Geometry}
use Rattle.steps.specs.Deed.{work_at, Deed, line_deed, drops_among, policy_deed}
use Rattle.steps.proofs.DeedLaws.{line_down, line_room, line_done, policy_down, policy_room, policy_done}
use Rattle.steps.proofs.StepLaws.{put_own}
use Rattle.block.specs.Inside.{Blocked, contents, with_tables, with_domain, Swept, Did, did_of, work_did, deed_did}
use Rattle.block.proofs.SetLaws.{tables_in, tables_shaped}
use Rattle.block.proofs.DomainLaws.{domains_in}

module _ (g : Geometry) (block : List ℕ) (d : ℕ) {own : Domain} (is : own ≡ domain_of (domains_in g block) d) where
  -- a deed that moves nothing
  deed_none : (n : ℕ)
      → did_of (Refused n) (contents g block) ≡ deed_did d (record { answer = Refused n; own = own; tables = tables_in g block }) (contents g block)
  deed_none n =
      let same : put_domain d own (domains_in g block) ≡ domains_in g block =
      ap (λ (x : Domain). put_domain d x (domains_in g block)) is ∙ put_own d (domains_in g block) in
      λ i. did_of (Refused n) (record { head = (contents g block).head; state = record { tables = tables_in g block; domains = sym same i } })

  -- a deed whose tables were put, and then the domain's record
  deed_put : (y : Deed) (next after : List ℕ) → contents g next ≡ with_tables y.tables (contents g block)
      → contents g after ≡ with_domain d y.own (contents g next) → did_of y.answer (contents g after) ≡ deed_did d y (contents g block)
  deed_put y next after e f = ap (did_of y.answer) (f ∙ ap (with_domain d y.own) e)

  -- ---- an access or a flush

  module _ (u : LineUse) (arg : ℕ) {n : ℕ} (e : n ≡ use_refusal (as_read g.ways (maps_of own)) own.counts) where
    named : deed_did d (line_deed g own u arg (tables_in g block)) (contents g block)
        ≡ deed_did d (line_deed g (domain_of (domains_in g block) d) u arg (tables_in g block)) (contents g block)
    named = ap (λ (x : Domain). deed_did d (line_deed g x u arg (tables_in g block)) (contents g block)) is

    pub line_refused : (n ≡ 0 → ⊥)
        → did_of (Refused n) (contents g block) ≡ deed_did d (line_deed g (domain_of (domains_in g block) d) u arg (tables_in g block)) (contents g block)
    line_refused z =
        deed_none n ∙ ap (λ (y : Deed). deed_did d y (contents g block)) (line_down g own u arg (tables_in g block) e z refl) ∙ named

    pub line_used : (next after : List ℕ) {a : Answer} {x : Domain} → n ≡ 0
        → did_of a (contents g next) ≡ work_did (work_at g u (maps_of own) arg (tables_in g block)) (contents g block) → x ≡ used_of a own
        → contents g after ≡ with_domain d x (contents g next)
        → did_of a (contents g after) ≡ deed_did d (line_deed g (domain_of (domains_in g block) d) u arg (tables_in g block)) (contents g block)
    unfolding used_of
    line_used next after {a} {x} z w f put =
        let made : x ≡ used_domain a own = f ∙ rw (line_room g own u arg (tables_in g block) e z) in
        let deed : Deed = record { answer = a; own = used_domain a own; tables = tables_in g next } in
        let left : contents g next ≡ with_tables (tables_in g next) (contents g block) = λ i. record {
          head = (w i).left.head;
          state = record { tables = tables_in g next; domains = (w i).left.state.domains };
        } in
        deed_put deed next after left (put ∙ ap (λ (y : Domain). with_domain d y (contents g next)) made)
        ∙ ap (λ (y : Deed). deed_did d y (contents g block))
        (line_done g own u arg (tables_in g block) e z (ap (λ (o : Did). record { answer = o.answer; tables = o.left.state.tables }) w) refl)
        ∙ named

  -- ---- a change of policy

  module _ (b : Blocked g block) (arg : ℕ) {p : Policies} (all : p ≡ policies_of (domains_in g block)) {n drops : ℕ}
      (judged : drops ≡ drops_among g.ways (maps_of own) p d arg (tables_in g block).valid) (e : n ≡ policy_refusal_of g p own.counts drops d arg) where
    given : deed_did d (policy_deed g own p d arg (tables_in g block)) (contents g block)
        ≡ deed_did d (policy_deed g (domain_of (domains_in g block) d) (policies_of (domains_in g block)) d arg (tables_in g block)) (contents g block)
    given = λ i. deed_did d (policy_deed g (is i) (all i) d arg (tables_in g block)) (contents g block)

    pub policy_refused : (n ≡ 0 → ⊥) → did_of (Refused n) (contents g block)
        ≡ deed_did d (policy_deed g (domain_of (domains_in g block) d) (policies_of (domains_in g block)) d arg (tables_in g block)) (contents g block)
    policy_refused z =
        deed_none n
        ∙ ap (λ (y : Deed). deed_did d y (contents g block))
        (policy_down g own p d arg (tables_in g block) drops (tables_shaped g block b) (ap (λ (m : ℕ). overflows arg m own.counts) judged) e z refl)
        ∙ given

    pub policy_changed : (after : List ℕ) {new : Maps} {sweep : Sweep} {done : Drops} {next : List ℕ} {x : Domain} → n ≡ 0 → new ≡ new_maps arg
        → sweep ≡ sweep_of g.ways g.rule (maps_of own) new → Swept g sweep block next done.dropped done.dirty
        → x ≡ changed_of arg done.dropped own → contents g after ≡ with_domain d x (contents g next)
        → did_of (Policy done.dropped done.dirty) (contents g after)
        ≡ deed_did d (policy_deed g (domain_of (domains_in g block) d) (policies_of (domains_in g block)) d arg (tables_in g block)) (contents g block)
    unfolding changed_of
    policy_changed after {new} {sweep} {done} {next} {x} z m s swept f put =
        let shaped = tables_shaped g block b in
        let near = ap (λ (k : ℕ). overflows arg k own.counts) judged in
        let room : overflows arg done.dropped own.counts ≡ false =
        policy_room g own p d arg (tables_in g block) drops shaped near e {done = done} z m s swept.swept in
        let made : x ≡ new_domain arg done.dropped own = f ∙ rw room in
        let deed : Deed = record { answer = Policy done.dropped done.dirty; own = new_domain arg done.dropped own; tables = tables_in g next } in
        deed_put deed next after swept.left (put ∙ ap (λ (y : Domain). with_domain d y (contents g next)) made)
        ∙ ap (λ (y : Deed). deed_did d y (contents g block))
        (policy_done g own p d arg (tables_in g block) drops shaped near e {done = done} z m s swept.swept refl)
        ∙ given
