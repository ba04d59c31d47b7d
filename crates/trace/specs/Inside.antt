-- What the crate's inner functions go by.
use Rattle.std.specs.Prelude.{cond, List, ℕ, ◌+◌, ◌*◌, ◌≤◌, ltb, length}
use Rattle.std.proofs.lemmas.List.Edits.{sets}
use Rattle.geometry.specs.declared.Geometry.{Geometry}
use Rattle.domains.specs.Domains.{max_domains}
use Rattle.selectors.specs.Selectors.{fresh_cores}
use Rattle.cores.specs.Step.{Lent}
use Rattle.cores.specs.Run.{core_answers, core_finally, fresh_lent}
use Rattle.cores.specs.Calls.{lent_of}
use Rattle.steps.specs.Fresh.{fresh_domains}
use Rattle.steps.specs.Tables.{Tables}
use Rattle.tracefile.specs.File.{max_file_sets, last_steps}
use Rattle.listing.specs.Listing.{lister_cores, answer_lines, domain_lines, run_lines}

-- An output, and the place in it where the next bytes go.
pub record Written : Type 0 where
  pub at : ℕ
  pub out : List ℕ

abbrev pub written_of : ℕ → List ℕ → Written
written_of at out = record { at = at; out = out }

-- The output with bytes put there.
unfoldable pub append : List ℕ → Written → Written
append bytes w = record { at = w.at + length bytes; out = sets w.out w.at bytes }

-- What stands after field i of n: a space, or the line's end.
unfoldable pub end_of : ℕ → ℕ → ℕ
end_of i n = cond (ltb (i + 1) n) 32 10

-- What the k steps of a file of n from step i on leave: what is lent, and their lines in the output.
pub record RunTo : Type 0 where
  pub lent : Lent
  pub text : Written

unfoldable pub run_to : Geometry → List ℕ → ℕ → ℕ → ℕ → Lent → Written → RunTo
run_to g file n i k x w = record {
  lent = core_finally g (last_steps file n i k) x;
  text = append (answer_lines i (core_answers g (last_steps file n i k) x)) w;
}

-- What the listing of a file of n steps leaves on tables of their lengths: the tables, and the lines in the output.
pub record ListedBy : Type 0 where
  pub tables : Tables
  pub text : Written

abbrev pub listed_by : Tables → Written → ListedBy
listed_by t w = record { tables = t; text = w }

-- The domains' lines after a run.
abbrev pub end_on : Geometry → RunTo → ListedBy
end_on g r = listed_by r.lent.cache.tables (append (domain_lines g.ways r.lent.cache.domains 0 max_domains) r.text)

-- What a run of all n steps on given tables leaves: the tables, and the lines of the steps and of the domains in the output.
unfoldable pub ran_by : Geometry → List ℕ → ℕ → Tables → Written → ListedBy
ran_by g file n t w = end_on g (run_to g file n 0 n (lent_of t fresh_domains (fresh_cores lister_cores)) w)

unfoldable pub listing_by : Geometry → List ℕ → ℕ → List ℕ → ListedBy
listing_by g file n out =
    listed_by (core_finally g (last_steps file n 0 n) (fresh_lent g lister_cores)).cache.tables (append (run_lines g (last_steps file n 0 n) n) (written_of 0 out))

-- Room for every geometry that a file may name, and for every listing.
pub record Roomy (t : Tables) (out : List ℕ) : Type 0 where
  pub tags_long : max_file_sets * 16 ≤ length t.tags
  pub valid_long : max_file_sets ≤ length t.valid
  pub dirty_long : max_file_sets ≤ length t.dirty
  pub words_long : max_file_sets ≤ length t.words
  pub out_long : 393216 ≤ length out
