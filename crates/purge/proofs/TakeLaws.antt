-- The purge of a trace, step by step: what is taken so far, and what the steps to come will add.
use mathlib.Core.Path.{◌≡◌, refl, sym, ap, ap₂, subst, ◌∙◌}
use mathlib.Core.Bool.{Bool, true, false, cond}
use mathlib.Core.List.{List, [], ◌∷◌, ◌++◌, map, append-nil, append_assoc, map-append}
use mathlib.Core.Logic.{◌⊎◌, inl, inr}
use Prim.Native.Nat.{ℕ, suc, ◌+◌, ◌%◌, ◌≤◌, ◌<◌, min}
use native.Mathlib.Numerals.{add-one}
use native.Mathlib.Omega.{arith}
use lib.Dec.{ltb}
use lib.ListN.{length, drop, set, get_or, length-set, length-replicate, length-map, length-append, length-drop, drop_of_length-le}
use borrow.Author.Tests.{eq-eqb, ne_eqb}
use Rattle.waymap.proofs.Booleans.{cases}
use Rattle.std.specs.Prelude.{Ok, Err}
use Rattle.command.specs.declared.Refusal.TheVariants.{Lengths}
use Rattle.command.specs.Command.{Command, command_of, code_of, argument_of, commands_of}
use Rattle.command.proofs.CommandLaws.{code_of_command}
use Rattle.command.proofs.ListLaws.{store_next, drop_next}
use Rattle.selectors.specs.Selectors.{max_cores, no_core, fresh_cores, Meant, meant_by, record_by}
use Rattle.selectors.specs.declared.Core.{Core}
use Rattle.selectors.proofs.PlaceLaws.{place_meant, place_records}
use Rattle.purge.specs.Purge.{keeps_by, core_purge}
use Rattle.purge.specs.Calls.{Taken, taken_of, purge_of}
use Rattle.purge.specs.Inside.{take_one}

-- ---- the loop

-- After i steps: the steps taken so far stand at the front of both tables, and the steps to come add what the purge keeps of them.
pub record Taking (d : ℕ) (codes arguments out_codes out_arguments new_codes new_arguments : List ℕ) (cores : List Core) (count i : ℕ) : Type 0 where
  pub long : length cores ≡ max_cores
  pub same : length arguments ≡ length codes
  pub codes_fit : length out_codes ≡ length codes
  pub arguments_fit : length out_arguments ≡ length codes
  pub inside : i ≤ length codes
  pub kept : List Command
  pub is : core_purge d (fresh_cores max_cores) (commands_of codes arguments) ≡ kept ++ core_purge d cores (commands_of (drop i codes) (drop i arguments))
  pub counted : count ≡ length kept
  pub behind : count ≤ i
  pub codes_are : new_codes ≡ map code_of kept ++ drop (length kept) out_codes
  pub arguments_are : new_arguments ≡ map argument_of kept ++ drop (length kept) out_arguments

front_long : (f : Command → ℕ) (kept : List Command) (out new : List ℕ) → new ≡ map f kept ++ drop (length kept) out → length kept ≤ length out
    → length new ≡ length out
front_long f kept out new e h =
    ap (λ (xs : List ℕ). length xs) e
    ∙ length-append (map f kept) (drop (length kept) out)
    ∙ ap₂ ◌+◌ (length-map kept f) (length-drop (length kept) out)
    ∙ omega arith

module _ {d : ℕ} {codes arguments out_codes out_arguments new_codes new_arguments : List ℕ} {cores : List Core} {count i : ℕ}
    (t : Taking d codes arguments out_codes out_arguments new_codes new_arguments cores count i) where
  room : length t.kept ≤ length codes
  room = let h : count ≤ length codes = omega (arith, t.behind, t.inside) in rw t.counted at h

  pub codes_long : length new_codes ≡ length out_codes
  codes_long = front_long code_of t.kept out_codes new_codes t.codes_are (rw t.codes_fit room)

  pub arguments_long : length new_arguments ≡ length out_arguments
  arguments_long = front_long argument_of t.kept out_arguments new_arguments t.arguments_are (rw t.arguments_fit room)

  pub fits_codes : i < length codes → count < length new_codes
  fits_codes h = omega (arith, t.behind, codes_long, t.codes_fit)

  pub fits_arguments : i < length codes → count < length new_arguments
  fits_arguments h = omega (arith, t.behind, arguments_long, t.arguments_fit)

pub begin : (d : ℕ) {codes arguments out_codes out_arguments : List ℕ} → length arguments ≡ length codes → length out_codes ≡ length codes
    → length out_arguments ≡ length codes → Taking d codes arguments out_codes out_arguments out_codes out_arguments (fresh_cores max_cores) 0 0
begin d s c a = record {
  long = length-replicate max_cores no_core;
  same = s;
  codes_fit = c;
  arguments_fit = a;
  inside = omega arith;
  kept = [];
  is = refl;
  counted = refl;
  behind = omega arith;
  codes_are = refl;
  arguments_are = refl;
}

store : (f : Command → ℕ) (c : Command) (kept : List Command) (out new : List ℕ) (x : ℕ) → f c ≡ x → length kept < length out
    → new ≡ map f kept ++ drop (length kept) out
    → set new (length kept) x ≡ map f (kept ++ c ∷ []) ++ drop (length (kept ++ c ∷ [])) out
store f c kept out new x e h n =
    rw (n, length-append kept (c ∷ []), map-append f kept (c ∷ []), sym e)
    (let next : set (map f kept ++ drop (length (map f kept)) out) (length (map f kept)) (f c)
    ≡ (map f kept ++ f c ∷ []) ++ drop (suc (length (map f kept))) out = store_next (map f kept) out (f c) (rw (length-map kept f) h) in
    rw (length-map kept f, sym (add-one (length kept))) at next)

-- The steps to come are this step and those after it.
ahead : (codes arguments : List ℕ) {i : ℕ} → i < length codes → length arguments ≡ length codes
    → commands_of (drop i codes) (drop i arguments)
    ≡ command_of (get_or codes i 0) (get_or arguments i 0) ∷ commands_of (drop (i + 1) codes) (drop (i + 1) arguments)
unfolding commands_of
ahead codes arguments {i} h s = rw (drop_next i codes 0 h, drop_next i arguments 0 (rw s h))

module _ {d : ℕ} {codes arguments out_codes out_arguments new_codes new_arguments : List ℕ} {cores : List Core} {count i : ℕ}
    (t : Taking d codes arguments out_codes out_arguments new_codes new_arguments cores count i) (h : i < length codes) where
  abbrev this : Command
  this = command_of (get_or codes i 0) (get_or arguments i 0)

  -- the record at the place of its core, what it means, and the records after it
  abbrev place : ℕ
  place = this.domain % max_cores

  abbrev here : Core
  here = get_or cores place no_core

  abbrev meaning : Meant
  meaning = meant_by (ltb this.domain max_cores) here this

  abbrev after : List Core
  after = set cores place (record_by meaning here)

  abbrev rest : List Command
  rest = core_purge d after (commands_of (drop (i + 1) codes) (drop (i + 1) arguments))

  is_next : {k : Bool} → keeps_by d meaning ≡ k → core_purge d (fresh_cores max_cores) (commands_of codes arguments) ≡ t.kept ++ cond k (this ∷ rest) rest
  unfolding core_purge
  is_next {k} e =
      t.is ∙ rw (ahead codes arguments h t.same, ← (place_meant cores t.long this), ← (place_records cores t.long this), e)

  after_long : length after ≡ max_cores
  after_long = length-set cores place (record_by meaning here) ∙ t.long

  taken : keeps_by d meaning ≡ true
      → Taking d codes arguments out_codes out_arguments (set new_codes count (get_or codes i 0)) (set new_arguments count (get_or arguments i 0)) after (count + 1)
      (i + 1)
  unfolding command_of
  taken e = record {
    long = after_long;
    same = t.same;
    codes_fit = t.codes_fit;
    arguments_fit = t.arguments_fit;
    inside = omega arith;
    kept = t.kept ++ this ∷ [];
    is = is_next e ∙ sym (append_assoc t.kept (this ∷ []) rest);
    counted = rw (t.counted, length-append t.kept (this ∷ []));
    behind = omega (arith, t.behind);
    codes_are = rw t.counted (store code_of this t.kept out_codes new_codes (get_or codes i 0) (code_of_command (get_or codes i 0) (get_or arguments i 0))
        (rw t.codes_fit room) t.codes_are);
    arguments_are = rw t.counted (store argument_of this t.kept out_arguments new_arguments (get_or arguments i 0) refl (rw t.arguments_fit room)
        t.arguments_are);
  }
    where
      room : length t.kept < length codes
      room = let h' : count < length codes = omega (arith, t.behind) in rw t.counted at h'

  left : keeps_by d meaning ≡ false → Taking d codes arguments out_codes out_arguments new_codes new_arguments after count (i + 1)
  left e = record {
    long = after_long;
    same = t.same;
    codes_fit = t.codes_fit;
    arguments_fit = t.arguments_fit;
    inside = omega arith;
    kept = t.kept;
    is = is_next e;
    counted = t.counted;
    behind = omega (arith, t.behind);
    codes_are = t.codes_are;
    arguments_are = t.arguments_are;
  }

  -- one turn, where the code has the place as p
  pub turned : (r : ℕ) {codes' arguments' : List ℕ} {p : ℕ} {m : Meant} {core : Core} → p ≡ place
      → m ≡ meant_by (ltb this.domain max_cores) (get_or cores p no_core) this → core ≡ record_by m (get_or cores p no_core)
      → taken_of (Ok r) codes' arguments' ≡ take_one (keeps_by d m) (get_or codes i 0) (get_or arguments i 0) count new_codes new_arguments
      → Taking d codes arguments out_codes out_arguments codes' arguments' (set cores p core) r (i + 1)
  unfolding take_one
  turned r {codes'} {arguments'} {p} {m} {core} stands means is e =
      let m_is : m ≡ meaning = means ∙ ap (λ (q : ℕ). meant_by (ltb this.domain max_cores) (get_or cores q no_core) this) stands in
      rw (is, m_is, stands) (cases (keeps_by d meaning)
      (λ k. go (rw (m_is, k) at e) (taken k))
      (λ k. go (rw (m_is, k) at e) (left k)))
    where
      go : {x : Taken} → taken_of (Ok r) codes' arguments' ≡ x
          → Taking d codes arguments out_codes out_arguments x.codes x.arguments after x.count (i + 1)
          → Taking d codes arguments out_codes out_arguments codes' arguments' after r (i + 1)
      go {x} q w = subst (λ (y : Taken). Taking d codes arguments out_codes out_arguments y.codes y.arguments after y.count (i + 1)) (sym q) w

module _ {d : ℕ} {codes arguments out_codes out_arguments new_codes new_arguments : List ℕ} {cores : List Core} {count i : ℕ} where
  pub end : Taking d codes arguments out_codes out_arguments new_codes new_arguments cores count i → length codes ≤ i
      → taken_of (Ok count) new_codes new_arguments ≡ purge_of d codes arguments out_codes out_arguments
  unfolding purge_of core_purge commands_of
  end t h =
      rw (
        eq-eqb (length arguments) (length codes) t.same,
        eq-eqb (length out_codes) (length codes) t.codes_fit,
        eq-eqb (length out_arguments) (length codes) t.arguments_fit,
      )
      (rw (all, t.counted, t.codes_are, t.arguments_are))
    where
      all : core_purge d (fresh_cores max_cores) (commands_of codes arguments) ≡ t.kept
      all = t.is ∙ rw (drop_of_length-le codes h) (append-nil t.kept)

-- ---- the loop over both tables side by side, which has given as many pairs as there were turns

module _ {A : Type 0} {d : ℕ} {codes arguments out_codes out_arguments new_codes new_arguments : List ℕ} {cores : List Core} {count : ℕ} where
  pub turned_by : (given : List A) (pair : A) → Taking d codes arguments out_codes out_arguments new_codes new_arguments cores count (length given)
      → length given < length codes → {code argument : ℕ} → code ≡ get_or codes (length given) 0 → argument ≡ get_or arguments (length given) 0
      → (r : ℕ) {codes' arguments' : List ℕ} {p : ℕ} {m : Meant} {core : Core} → p ≡ code % 256 % max_cores
      → m ≡ meant_by (ltb (code % 256) max_cores) (get_or cores p no_core) (command_of code argument) → core ≡ record_by m (get_or cores p no_core)
      → taken_of (Ok r) codes' arguments' ≡ take_one (keeps_by d m) code argument count new_codes new_arguments
      → Taking d codes arguments out_codes out_arguments codes' arguments' (set cores p core) r (length (given ++ pair ∷ []))
  unfolding command_of
  turned_by given pair t h {code} {argument} c a r {codes'} {arguments'} {p} {m} {core} stands means is e =
      rw (length-append given (pair ∷ []))
      (turned t h r (rw c at stands) (rw (c, a) at means) is (rw (c, a) at e))

module _ {d : ℕ} {codes arguments out_codes out_arguments new_codes new_arguments : List ℕ} {cores : List Core} {count : ℕ} where
  pub ended_by : {given : ℕ} → Taking d codes arguments out_codes out_arguments new_codes new_arguments cores count given → length arguments ≡ length codes
      → given ≡ min (length codes) (length arguments)
      → taken_of (Ok count) new_codes new_arguments ≡ purge_of d codes arguments out_codes out_arguments
  ended_by t s e = end t (omega (arith, e, s))

-- ---- refusals

module _ (d : ℕ) (codes arguments out_codes out_arguments : List ℕ) where
  abbrev Refused : Type 0
  Refused = taken_of (Err Lengths) out_codes out_arguments ≡ purge_of d codes arguments out_codes out_arguments

  refused_arguments : (length arguments ≡ length codes → ⊥) → Refused
  unfolding purge_of
  refused_arguments n = rw (ne_eqb (length arguments) (length codes) n)

  refused_codes : length arguments ≡ length codes → (length out_codes ≡ length codes → ⊥) → Refused
  unfolding purge_of
  refused_codes s n = rw (eq-eqb (length arguments) (length codes) s, ne_eqb (length out_codes) (length codes) n)

  refused_taken : length arguments ≡ length codes → length out_codes ≡ length codes → (length out_arguments ≡ length codes → ⊥) → Refused
  unfolding purge_of
  refused_taken s c n =
      rw (eq-eqb (length arguments) (length codes) s, eq-eqb (length out_codes) (length codes) c, ne_eqb (length out_arguments) (length codes) n)

  -- any of the three lengths is another
  pub refused : (length arguments ≡ length codes → ⊥)
      ⊎ (((length arguments ≡ length codes) × (length out_codes ≡ length codes → ⊥))
      ⊎ ((length arguments ≡ length codes) × (length out_codes ≡ length codes) × (length out_arguments ≡ length codes → ⊥)))
      → Refused
  refused (inl n) = refused_arguments n
  refused (inr (inl t)) = refused_codes t.0 t.1
  refused (inr (inr t)) = refused_taken t.0 t.1 t.2
