-- `trace::list` meets its contract.
use mathlib.Core.Path.{sym, ◌∙◌}
use Rattle.steps.specs.Step.{tables_of}
use Rattle.command.proofs.RefusalLaws.{number_some}
use Rattle.trace.proofs.ListLaws.{refused_is, listed_counts}
use borrow.Author.Rules.{rules}
use Rattle.trace.proofs.list.Goals as goal

pub returns-in-Err : goal.returns-in-Err
returns-in-Err c =
    let given = c.args in
    let refused = c.refused in
    let is = refused_is given.file.now given.out.now refused.new.out
    (tables_of given.tags.now given.valid.now given.dirty.now given.words.now)
    (c.number.ensures ∙ c.in-Err.ensures) (λ z. number_some _ (sym c.number.ensures ∙ z)) (search rules)
    refused.ensures.out_after refused.ensures.upper_bound in
    record {
      words_after = is;
      prefix_len = listed_counts _ _ _ is;
    }

pub returns-in-Ok : goal.returns-in-Ok
returns-in-Ok c =
    record {
      words_after = c.list_file.ensures;
      prefix_len = listed_counts _ _ _ c.list_file.ensures;
    }
