-- The run of a file's steps, line after line.
use mathlib.Core.Path.{◌≡◌, refl, sym, ap, ap₂, ◌∙◌}
use mathlib.Core.Bool.{true}
use mathlib.Core.List.{List, ◌∷◌, ◌++◌}
use Prim.Native.Nat.{ℕ, suc, ◌+◌, ◌-◌, ◌*◌, ◌≤◌, ◌<◌}
use native.Mathlib.Omega.{arith}
use lib.ListN.{length}
use Rattle.geometry.specs.Geometry.{within, sized}
use Rattle.domains.specs.Domains.{max_domains}
use Rattle.domains.specs.declared.Domains.{Domains}
use Rattle.geometry.specs.declared.Geometry.{Geometry}
use Rattle.command.specs.Command.{Command}
use Rattle.selectors.specs.Selectors.{max_cores, fresh_cores}
use Rattle.selectors.specs.declared.Core.{Core}
use Rattle.cores.specs.Step.{Lent, Result, core_step}
use Rattle.cores.specs.Run.{core_answers, core_finally, fresh_lent}
use Rattle.cores.specs.Calls.{lent_of}
use Rattle.steps.specs.Tables.{Tables, lengths}
use Rattle.steps.specs.Fresh.{fresh_tables, fresh_domains, fresh}
use Rattle.fresh.specs.Calls.{Made, made_of, fresh_of}
use Rattle.tracefile.specs.File.{max_steps, command_at, last_steps}
use Rattle.listing.specs.Listing.{lister_cores, decimal, line, told, answer_lines, head_line, domain_lines, run_lines}
use Rattle.trace.specs.Inside.{Written, written_of, append, run_to, ListedBy, listed_by, end_on, ran_by, listing_by}
use Rattle.trace.proofs.TextLaws.{append_append, append_none, piece_long}

-- The first of the steps to come, and then the others.
run_next : (g : Geometry) (file : List ℕ) (n i k : ℕ) (x : Lent) (w : Written) (o : Result) → o ≡ core_step g (command_at file n i) x
    → run_to g file n (i + 1) k o.lent (append (line (decimal i ∷ told o.answer)) w) ≡ run_to g file n i (suc k) x w
unfolding run_to last_steps core_finally core_answers answer_lines
run_next g file n i k x w o e =
    ap (λ (p : Result). run_to g file n (i + 1) k p.lent (append (line (decimal i ∷ told p.answer)) w)) e
    ∙ ap (λ (y : Written). record { lent = core_finally g (last_steps file n i (suc k)) x; text = y })
    (append_append (line (decimal i ∷ told (core_step g (command_at file n i) x).answer))
    (answer_lines (i + 1) (core_answers g (last_steps file n (i + 1) k) (core_step g (command_at file n i) x).lent)) w)

-- After i steps: the steps to come make the whole.
pub record Running (g : Geometry) (file : List ℕ) (n : ℕ) (x₀ : Lent) (out₀ : List ℕ) (at : ℕ) (x : Lent) (out : List ℕ) (next i : ℕ) : Type 0 where
  pub inside : i ≤ n
  pub fits : at + (92 * n + 2800) ≤ length out₀
  pub behind : next ≤ at + 92 * i
  pub long : length out ≡ length out₀
  pub tables_long : lengths x.cache.tables ≡ lengths x₀.cache.tables
  pub cores_long : length x.cores ≡ max_cores
  pub is : run_to g file n i (n - i) x (written_of next out) ≡ run_to g file n 0 n x₀ (written_of at out₀)

pub run_begin : (g : Geometry) (file : List ℕ) (n : ℕ) (x : Lent) (out : List ℕ) (at : ℕ) → at + (92 * n + 2800) ≤ length out → length x.cores ≡ max_cores
    → Running g file n x out at x out at 0
run_begin g file n x out at h l = record {
  inside = omega arith;
  fits = h;
  behind = omega arith;
  long = refl;
  tables_long = refl;
  cores_long = l;
  is = ap (λ (k : ℕ). run_to g file n 0 k x (written_of at out)) (omega arith);
}

-- Room for the line of the next step.
pub run_room : {g : Geometry} {file : List ℕ} {n : ℕ} {x₀ x : Lent} {out₀ out : List ℕ} {at next i : ℕ}
    → Running g file n x₀ out₀ at x out next i → i < n → next + 92 ≤ length out
run_room p h = omega arith

pub run_turned : {g : Geometry} {file : List ℕ} {n : ℕ} {x₀ x : Lent} {out₀ out new : List ℕ} {at next after i : ℕ} (c : Command) (o : Result)
    → Running g file n x₀ out₀ at x out next i → i < n → c ≡ command_at file n i → o ≡ core_step g c x
    → lengths o.lent.cache.tables ≡ lengths x.cache.tables → length o.lent.cores ≡ length x.cores
    → written_of after new ≡ append (line (decimal i ∷ told o.answer)) (written_of next out) → after ≤ next + 92
    → Running g file n x₀ out₀ at o.lent new after (i + 1)
run_turned {g} {file} {n} {x₀} {x} {out₀} {out} {new} {at} {next} {after} {i} c o p h e f l k t b =
    let more : n - i ≡ suc (n - (i + 1)) = omega arith in
    record {
      inside = omega arith;
      fits = p.fits;
      behind = omega (arith, p.behind);
      long = piece_long (line (decimal i ∷ told o.answer)) (written_of next out) t ∙ p.long;
      tables_long = l ∙ p.tables_long;
      cores_long = k ∙ p.cores_long;
      is =
          ap (run_to g file n (i + 1) (n - (i + 1)) o.lent) t
          ∙ run_next g file n i (n - (i + 1)) x (written_of next out) o (f ∙ ap (λ (b : Command). core_step g b x) e)
          ∙ ap (λ (k : ℕ). run_to g file n i k x (written_of next out)) (sym more)
          ∙ p.is;
    }

-- Room for the lines of the domains.
pub run_rest : {g : Geometry} {file : List ℕ} {n : ℕ} {x₀ x : Lent} {out₀ out : List ℕ} {at next i : ℕ}
    → Running g file n x₀ out₀ at x out next i → next + 2800 ≤ length out
run_rest p = omega arith

pub run_short : {g : Geometry} {file : List ℕ} {n : ℕ} {x₀ x : Lent} {out₀ out : List ℕ} {at next i r : ℕ}
    → Running g file n x₀ out₀ at x out next i → r ≤ next + 2800 → r ≤ at + (92 * n + 2800)
run_short p h = omega arith

run_end : {g : Geometry} {file : List ℕ} {n : ℕ} {x₀ x : Lent} {out₀ out : List ℕ} {at next i : ℕ} → Running g file n x₀ out₀ at x out next i → n ≤ i
    → record { lent = x; text = written_of next out } ≡ run_to g file n 0 n x₀ (written_of at out₀)
unfolding run_to last_steps core_finally core_answers answer_lines
run_end {g} {file} {n} {x₀} {x} {out₀} {out} {at} {next} {i} p h =
    let none : n - i ≡ 0 = omega arith in
    let w : Written = written_of next out in
    sym (ap (λ (k : ℕ). run_to g file n i k x w) none ∙ ap (λ (y : Written). record { lent = x; text = y }) (append_none w))
    ∙ p.is

pub run_ended : {g : Geometry} {file : List ℕ} {n : ℕ} {x₀ x : Lent} {out₀ out last : List ℕ} {at next i r : ℕ}
    → Running g file n x₀ out₀ at x out next i → n ≤ i → x₀.cache.domains ≡ fresh_domains → x₀.cores ≡ fresh_cores lister_cores
    → written_of r last ≡ append (domain_lines g.ways x.cache.domains 0 max_domains) (written_of next out)
    → listed_by x.cache.tables (written_of r last) ≡ ran_by g file n x₀.cache.tables (written_of at out₀)
unfolding ran_by
run_ended {g} {file} {n} {x₀} {x} {out₀} {out} {last} {at} p h d k e =
    ap (listed_by x.cache.tables) e
    ∙ ap (end_on g) (run_end p h)
    ∙ ap₂ (λ (ds : Domains) (cores : List Core). end_on g (run_to g file n 0 n (lent_of x₀.cache.tables ds cores) (written_of at out₀))) d k

-- ---- the whole listing

-- An output of 393,216 bytes has room for the first line, the lines of as many steps as a file may have and those of the domains.
pub room_for_head : {long : ℕ} → 393216 ≤ long → 0 + 84 ≤ long
room_for_head l = omega arith

pub room_for_lines : {head n now long : ℕ} → head ≤ 84 → now ≡ long → n ≤ max_steps → 393216 ≤ long → head + (92 * n + 2800) ≤ now
room_for_lines h e s l = omega arith

pub listing_short : {r head n : ℕ} → r ≤ head + (92 * n + 2800) → head ≤ 84 → n ≤ max_steps → r ≤ 393216
listing_short r h s = omega arith

fresh_is : (g : Geometry) (t new : Tables) (n : ℕ) → within g ≡ true → sized g (lengths t) ≡ true → made_of n new ≡ fresh_of g t → new ≡ fresh_tables g
unfolding fresh_of
fresh_is g t new n w z e = ap (λ (m : Made). m.tables) (rw (w, z) at e)

pub listing_is : (g : Geometry) (file : List ℕ) (n : ℕ) (out₀ : List ℕ) (t₀ t : Tables) (w : Written) (l : ListedBy) {made : ℕ}
    → within g ≡ true → sized g (lengths t₀) ≡ true → made_of made t ≡ fresh_of g t₀
    → w ≡ append (head_line g n) (written_of 0 out₀) → l ≡ ran_by g file n t w → l ≡ listing_by g file n out₀
unfolding listing_by run_lines ran_by run_to fresh_lent fresh
listing_is g file n out₀ t₀ t w l {made} g_in z m h e =
    let cs : List Command = last_steps file n 0 n in
    let w₀ : Written = written_of 0 out₀ in
    let head : List ℕ = head_line g n in
    let last : Lent = core_finally g cs (fresh_lent g lister_cores) in
    let answers : List ℕ = answer_lines 0 (core_answers g cs (fresh_lent g lister_cores)) in
    let named : List ℕ = domain_lines g.ways last.cache.domains 0 max_domains in
    e
    ∙ ap₂ (ran_by g file n) (fresh_is g t₀ t made g_in z m) h
    ∙ ap (listed_by last.cache.tables)
    (append_append answers named (append head w₀)
    ∙ append_append head (answers ++ named) w₀)
