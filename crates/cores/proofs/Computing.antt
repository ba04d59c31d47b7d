-- For worked cases: `unfolding core_computing` opens every definition that a step with core records computes with.
use Rattle.geometry.specs.Geometry.{sizes_of}
use Rattle.selectors.specs.Selectors.{
  selected,
  new_core,
  written,
  meant_by,
  meant,
  means,
  records_by,
  records_after,
  records_finally,
  plain_by,
  plain_steps,
}
use Rattle.steps.proofs.Computing.{computing}
use Rattle.cores.specs.Step.{answer_by, cache_by, lent_refusal, core_step}
use Rattle.cores.specs.Run.{core_answers, core_finally, fresh_lent}

unfoldable pub core_computing : Unit {0}
unfolding core_answers core_finally fresh_lent core_step lent_refusal answer_by cache_by plain_steps plain_by records_finally records_after records_by means meant
    meant_by written new_core selected sizes_of computing
core_computing = tt
