-- The lines of a listing, piece after piece.
use mathlib.Core.Path.{◌≡◌, refl, sym, ap, ◌∙◌}
use mathlib.Core.Bool.{Bool, true, false, cond}
use mir.Val.{bool_byte}
use mathlib.Core.List.{List, [], ◌∷◌, ◌++◌, append_assoc}
use Prim.Native.Nat.{ℕ, suc, ◌+◌, ◌-◌, ◌*◌, ◌≤◌, ◌<◌}
use native.Mathlib.Omega.{arith}
use lib.ListN.{length}
use borrow.Author.Tests.{eq-eqb, ne_eqb}
use Rattle.policy.specs.Policy.{as_read}
use Rattle.policy.specs.declared.Maps.{Maps}
use Rattle.domains.specs.Domains.{domain_of}
use Rattle.domains.specs.declared.Domain.{Domain}
use Rattle.domains.specs.declared.Domains.{Domains}
use Rattle.command.specs.declared.Answer.TheVariants.{Hit, Fill, Evict, Pass, Flush, Absent, Policy, Refused}
use Rattle.cores.specs.Calls.{reply_of}
use Rattle.cores.specs.declared.Reply.{Reply}
use Rattle.cores.specs.declared.Reply.TheVariants.{Cache, Select}
use Rattle.listing.specs.Listing.{decimal, line, told, domain_line, domain_part, domain_lines}
use Rattle.trace.specs.Inside.{Written, written_of, append}
use Rattle.trace.proofs.TextLaws.{append_append, append_none, piece_long}

-- ---- a step's line

step_is : (place : ℕ) (word : List ℕ) (rest : List (List ℕ)) (w : Written) {next r : ℕ} {out last : List ℕ}
    → written_of next out ≡ append (decimal place ++ 32 ∷ []) w → written_of r last ≡ append (line (word ∷ rest)) (written_of next out)
    → written_of r last ≡ append (line (decimal place ∷ word ∷ rest)) w
unfolding line
step_is place word rest w e f =
    f
    ∙ ap (append (line (word ∷ rest))) e
    ∙ append_append (decimal place ++ 32 ∷ []) (line (word ∷ rest)) w
    ∙ ap (λ (xs : List ℕ). append xs w) (append_assoc (decimal place) (32 ∷ []) (line (word ∷ rest)))

-- A test as a number.
pub byte_is : (b : Bool) → bool_byte b ≡ cond b 1 0
byte_is true = refl
byte_is false = refl

-- A reply's fields, behind its place: the first is a word.
pub answer_is : (place : ℕ) (reply : Reply) (w : Written) {next r : ℕ} {out last : List ℕ}
    → written_of next out ≡ append (decimal place ++ 32 ∷ []) w → written_of r last ≡ append (line (told (reply_of reply))) (written_of next out)
    → written_of r last ≡ append (line (decimal place ∷ told (reply_of reply))) w
unfolding told
answer_is place (Cache (Hit v)) w e f = step_is place _ _ w e f
answer_is place (Cache (Fill v)) w e f = step_is place _ _ w e f
answer_is place (Cache (Evict v tag dirty)) w e f = step_is place _ _ w e f
answer_is place (Cache Pass) w e f = step_is place _ _ w e f
answer_is place (Cache (Flush v dirty)) w e f = step_is place _ _ w e f
answer_is place (Cache Absent) w e f = step_is place _ _ w e f
answer_is place (Cache (Policy n d)) w e f = step_is place _ _ w e f
answer_is place (Cache (Refused n)) w e f = step_is place _ _ w e f
answer_is place (Select core) w e f = step_is place _ _ w e f

-- ---- the domains' lines

-- With the maps as they are read: no line for an empty hit map, and else the domain's.
module _ (W d : ℕ) (x : Domain) (w : Written) {read : Maps} (is : read ≡ as_read W (record { hit = x.hit; fill = x.fill })) where
  pub part_none : read.hit ≡ 0 → w ≡ append (domain_part W d x) w
  unfolding domain_part
  part_none e =
      rw (eq-eqb (as_read W (record { hit = x.hit; fill = x.fill })).hit 0 (ap (λ (m : Maps). m.hit) (sym is) ∙ e))
      (sym (append_none w))

  pub part_some : {r : ℕ} {last : List ℕ} → (read.hit ≡ 0 → ⊥) → written_of r last ≡ append (domain_line d x.counts) w
      → written_of r last ≡ append (domain_part W d x) w
  unfolding domain_part
  part_some e f =
      rw (ne_eqb (as_read W (record { hit = x.hit; fill = x.fill })).hit 0 (λ z. e (ap (λ (m : Maps). m.hit) is ∙ z))) f

-- After d domains: the domains to come make the whole.
pub record Naming (W : ℕ) (domains : Domains) (out₀ : List ℕ) (at : ℕ) (out : List ℕ) (next d : ℕ) : Type 0 where
  pub inside : d ≤ 16
  pub fits : at + 2800 ≤ length out₀
  pub behind : next ≤ at + 175 * d
  pub long : length out ≡ length out₀
  pub is : append (domain_lines W domains d (16 - d)) (written_of next out) ≡ append (domain_lines W domains 0 16) (written_of at out₀)

pub name_begin : (W : ℕ) (domains : Domains) (out : List ℕ) (at : ℕ) → at + 2800 ≤ length out → Naming W domains out at out at 0
name_begin W domains out at h = record { inside = omega arith; fits = h; behind = omega arith; long = refl; is = refl }

-- Room for the next domain's line.
pub name_room : {W : ℕ} {domains : Domains} {out₀ out : List ℕ} {at next d : ℕ} → Naming W domains out₀ at out next d → d < 16
    → next + 175 ≤ length out
name_room p h = omega arith

pub name_short : {W : ℕ} {domains : Domains} {out₀ out : List ℕ} {at next d : ℕ} → Naming W domains out₀ at out next d → next ≤ at + 2800
name_short p = omega arith

pub name_turned : {W : ℕ} {domains : Domains} {out₀ out new : List ℕ} {at next after d : ℕ} → Naming W domains out₀ at out next d → d < 16
    → written_of after new ≡ append (domain_part W d (domain_of domains d)) (written_of next out) → after ≤ next + 175
    → Naming W domains out₀ at new after (d + 1)
unfolding domain_lines
name_turned {W} {domains} {out₀} {out} {new} {at} {next} {after} {d} p h e b =
    let part : List ℕ = domain_part W d (domain_of domains d) in
    let rest : List ℕ = domain_lines W domains (d + 1) (16 - (d + 1)) in
    let more : 16 - d ≡ suc (16 - (d + 1)) = omega arith in
    record {
      inside = omega arith;
      fits = p.fits;
      behind = omega (arith, p.behind);
      long = piece_long part (written_of next out) e ∙ p.long;
      is =
          ap (append rest) e
          ∙ append_append part rest (written_of next out)
          ∙ ap (λ (n : ℕ). append (domain_lines W domains d n) (written_of next out)) (sym more)
          ∙ p.is;
    }

pub name_end : {W : ℕ} {domains : Domains} {out₀ out : List ℕ} {at next d : ℕ} → Naming W domains out₀ at out next d → 16 ≤ d
    → written_of next out ≡ append (domain_lines W domains 0 16) (written_of at out₀)
unfolding domain_lines
name_end {W} {domains} {out₀} {out} {at} {next} {d} p h =
    let none : 16 - d ≡ 0 = omega arith in
    sym (ap (λ (n : ℕ). append (domain_lines W domains d n) (written_of next out)) none ∙ append_none (written_of next out)) ∙ p.is
