-- The listing by the run without core records, as it was before document 02's job 5.
use Rattle.std.specs.Prelude.{cond, List, ◌++◌, ℕ, eqb}
use Rattle.domains.specs.Domains.{max_domains}
use Rattle.geometry.specs.Named.{geometry_of}
use Rattle.geometry.specs.declared.Geometry.{Geometry}
use Rattle.command.specs.Command.{Command}
use Rattle.steps.specs.Run.{answers_of, finally}
use Rattle.steps.specs.Fresh.{fresh}
use Rattle.tracefile.specs.File.{step_count, steps_of, file_refusal}
use Rattle.listing.specs.Listing.{answer_lines, domain_lines, head_line, refused_line}

unfoldable pub lines_before : Geometry → List Command → ℕ → List ℕ
lines_before g cs n =
    head_line g n ++ (answer_lines 0 (answers_of g cs (fresh g)) ++ domain_lines g.ways (finally g cs (fresh g)).domains 0 max_domains)

unfoldable pub listing_before : List ℕ → List ℕ
listing_before file =
    cond (eqb (file_refusal file) 0) (lines_before (geometry_of file) (steps_of file) (step_count file)) (refused_line (file_refusal file))
