-- The policies of all domains, without their counts.
use mathlib.Core.Path.{◌≡◌, refl, sym, ap, ◌∙◌}
use mathlib.Core.List.{List}
use Prim.Native.Nat.{ℕ, zero, suc, ◌+◌, ◌≤◌, ◌<◌}
use native.Mathlib.Nat.{zero-add}
use native.Mathlib.Omega.{arith}
use lib.Dec.{eqb}
use lib.ListN.{length, get_or, set, length-set}
use lib.Seq.{ext_get_or, get_or-set_same, get_or-set_other}
use borrow.Author.Tests.{eqb-true, eqb-false}
use Rattle.waymap.proofs.Booleans.{cases}
use Rattle.policy.specs.declared.Maps.{Maps}
use Rattle.domains.specs.Domains.{no_domain, domain_of, maps_of}
use Rattle.domains.specs.Calls.{maps_from, policies_of}
use Rattle.domains.specs.declared.Domains.{Domains}

from_long : (ds : Domains) (d n : ℕ) → length (maps_from ds d n) ≡ n
unfolding maps_from
from_long ds d zero = refl
from_long ds d (suc n) = ap suc (from_long ds (suc d) n)

from_at : (ds : Domains) (d n i : ℕ) → i < n → get_or (maps_from ds d n) i (maps_of no_domain) ≡ maps_of (domain_of ds (d + i))
unfolding maps_from
from_at ds d zero i h = absurd (omega arith)
from_at ds d (suc n) zero h = let at : d ≡ d + 0 = omega arith in ap (λ (e : ℕ). maps_of (domain_of ds e)) at
from_at ds d (suc n) (suc i) h =
    let at : suc d + i ≡ d + suc i = omega arith in
    from_at ds (suc d) n i (omega arith) ∙ ap (λ (e : ℕ). maps_of (domain_of ds e)) at

pub from_first : (ds : Domains) (n i : ℕ) → i < n → get_or (maps_from ds 0 n) i (maps_of no_domain) ≡ maps_of (domain_of ds i)
from_first ds n i h = from_at ds 0 n i h ∙ rw (zero-add i)

-- ---- gathered one after another

-- The first d are there.
pub record Gathering (ds : Domains) (maps : List Maps) (d : ℕ) : Type 0 where
  pub long : length maps ≡ 16
  pub within : d ≤ 16
  pub is : (e : ℕ) → e < d → get_or maps e (maps_of no_domain) ≡ maps_of (domain_of ds e)

pub begin : (ds : Domains) (maps : List Maps) → length maps ≡ 16 → Gathering ds maps 0
begin ds maps h = record { long = h; within = omega arith; is = λ e k. absurd (omega arith) }

pub turned : {ds : Domains} {maps : List Maps} {d : ℕ} → Gathering ds maps d → d < 16 → Gathering ds (set maps d (maps_of (domain_of ds d))) (d + 1)
turned {ds} {maps} {d} l h = record {
  long = length-set maps d (maps_of (domain_of ds d)) ∙ l.long;
  within = omega arith;
  is = λ e k.
      cases (eqb e d)
      (λ t. rw (eqb-true e d t) (get_or-set_same maps d (maps_of (domain_of ds d)) (maps_of no_domain) (rw l.long h)))
      (λ t. get_or-set_other maps d e (maps_of (domain_of ds d)) (maps_of no_domain) (eqb-false e d t) ∙ l.is e (omega (arith, eqb-false e d t)));
}

pub end : {ds : Domains} {maps : List Maps} {d : ℕ} → Gathering ds maps d → 16 ≤ d → record { maps = maps } ≡ policies_of ds
unfolding policies_of
end {ds} {maps} {d} l h =
    ap (λ (m : List Maps). record { maps = m })
    (ext_get_or (maps_of no_domain) maps (maps_from ds 0 16) (l.long ∙ sym (from_long ds 0 16))
    (λ i k. l.is i (omega (arith, l.long)) ∙ sym (from_first ds 16 i (omega (arith, l.long)))))
