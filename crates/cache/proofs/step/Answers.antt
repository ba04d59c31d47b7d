-- `cache::step` meets its contract.
use mathlib.Core.Path.{ap, ◌∙◌}
use Rattle.steps.specs.Step.{tables_of}
use Rattle.steps.specs.Deed.{put_deed}
use Rattle.cache.specs.Calls.{outcome}
use Rattle.cache.specs.declared.Stepped.{Stepped}
use Rattle.cache.proofs.step.Goals as goal

pub returns-in-Ok : goal.returns-in-Ok
unfolding put_deed
returns-in-Ok c =
    let left = tables_of c.tried.new.tags c.tried.new.valid c.tried.new.dirty c.tried.new.words in
    ap (λ (x : Stepped). outcome x left) c.put_back.ensures ∙ c.in-Ok.ensures.step

pub returns-in-Err : goal.returns-in-Err
returns-in-Err c =
    let left = tables_of c.tried.new.tags c.tried.new.valid c.tried.new.dirty c.tried.new.words in
    ap (λ (x : Stepped). outcome x left) c.refused.ensures ∙ c.in-Err.ensures.step
