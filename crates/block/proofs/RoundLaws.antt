-- What is written is read again: of a state of its geometry whose numbers have the widths of a block's.
use Rattle.std.proofs.Common.{◌≡◌, ℕ, suc, ◌+◌, ◌*◌, ◌/◌, ◌%◌, ◌^◌, ◌<◌, List, [], ◌∷◌, map, length, get_or, replicate, sym, refl, ap, ◌∙◌, ap₂, arith}
use lib.ListN.{length-map, get_or-map}
use Rattle.endian.specs.Bytes.{value, digits, field, cut, sum, joined}
use Rattle.runs.specs.Runs.{numbers, bytes_of}
use Rattle.endian.proofs.CutLaws.{cut_join, joined_long}
use Rattle.runs.proofs.TableLaws.{numbers_bytes, bytes_long}
use Rattle.geometry.specs.declared.Geometry.{Geometry}
use Rattle.domains.specs.Domains.{max_domains, no_domain}
use Rattle.domains.specs.declared.Counts.{Counts}
use Rattle.domains.specs.declared.Domain.{Domain}
use Rattle.steps.specs.Step.{State}
use Rattle.steps.specs.Inside.{Whole}
use Rattle.block.specs.Layout.{sizes, counts_in, domains_from, state_in, state_of, head_of, counts_bytes, state_bytes, block_of}
use Rattle.block.specs.Statements.{DomainFits, StateFits, StateAgain, BlockLong, GeometryAgain, ZerosAgain}
use Rattle.block.proofs.DomainLaws.{counts_long, counts_back}

-- ---- the parts that are written

abbrev pub parts_of : Geometry → State → List (List ℕ)
parts_of g s =
    head_of g
    ∷ bytes_of 2 (map (λ (x : Domain). x.hit) s.domains.records)
    ∷ bytes_of 2 (map (λ (x : Domain). x.fill) s.domains.records)
    ∷ joined (map (λ (x : Domain). counts_bytes x.counts) s.domains.records)
    ∷ bytes_of 2 s.tables.valid
    ∷ bytes_of 2 s.tables.dirty
    ∷ bytes_of 8 s.tables.words
    ∷ bytes_of 8 s.tables.tags
    ∷ []

-- records of counts side by side
counts_sizes : (ds : List Domain) → map length (map (λ (x : Domain). counts_bytes x.counts) ds) ≡ replicate (length ds) 28
counts_sizes [] = refl
counts_sizes (x ∷ ds) = ap₂ (λ (n : ℕ) (ns : List ℕ). n ∷ ns) (counts_long x.counts) (counts_sizes ds)

counts_read : (ds : List Domain) → ((d : ℕ) → DomainFits (get_or ds d no_domain))
    → map counts_in (map (λ (x : Domain). counts_bytes x.counts) ds) ≡ map (λ (x : Domain). x.counts) ds
counts_read [] f = refl
counts_read (x ∷ ds) f = ap₂ (λ (c : Counts) (cs : List Counts). c ∷ cs) (counts_back x.counts (f 0).counts) (counts_read ds (λ d. f (suc d)))

from_again : (ds : List Domain) → domains_from (map (λ (x : Domain). x.hit) ds) (map (λ (x : Domain). x.fill) ds) (map (λ (x : Domain). x.counts) ds) ≡ ds
unfolding domains_from
from_again [] = refl
from_again (x ∷ ds) = ap (λ (xs : List Domain). x ∷ xs) (from_again ds)

module _ (g : Geometry) (s : State) (whole : Whole g s) where
  abbrev ds : List Domain
  ds = s.domains.records

  maps_long : (f : Domain → ℕ) → length (bytes_of 2 (map f ds)) ≡ 32
  maps_long f = bytes_long 2 (map f ds) ∙ ap (λ (n : ℕ). n * 2) (length-map ds f ∙ whole.sixteen)

  all_counts : map length (map (λ (x : Domain). counts_bytes x.counts) ds) ≡ replicate 16 28
  all_counts = counts_sizes ds ∙ ap (λ (n : ℕ). replicate n 28) whole.sixteen

  head_long : length (head_of g) ≡ 8
  unfolding head_of digits
  head_long = refl

  parts_long : map length (parts_of g s) ≡ sizes g
  unfolding sizes
  parts_long = λ i.
      head_long i
      ∷ maps_long (λ (x : Domain). x.hit) i
      ∷ maps_long (λ (x : Domain). x.fill) i
      ∷ (joined_long (map (λ (x : Domain). counts_bytes x.counts) ds) ∙ ap sum all_counts) i
      ∷ (bytes_long 2 s.tables.valid ∙ ap (λ (n : ℕ). n * 2) whole.shaped.valid_long) i
      ∷ (bytes_long 2 s.tables.dirty ∙ ap (λ (n : ℕ). n * 2) whole.shaped.dirty_long) i
      ∷ (bytes_long 8 s.tables.words ∙ ap (λ (n : ℕ). n * 8) whole.shaped.words_long) i
      ∷ (bytes_long 8 s.tables.tags ∙ ap (λ (n : ℕ). n * 8) whole.shaped.tags_long) i
      ∷ []

  parts_again : cut (sizes g) (block_of g s) ≡ parts_of g s
  unfolding block_of state_bytes
  parts_again = ap (λ (ns : List ℕ). cut ns (joined (parts_of g s))) (sym parts_long) ∙ cut_join (parts_of g s)

  -- And it is read as the state that was written.
  module _ (fits : StateFits s) where
    maps_again : (f : Domain → ℕ) → f no_domain ≡ 0 → ((d : ℕ) → f (get_or ds d no_domain) < 256 ^ 2) → numbers 2 16 (bytes_of 2 (map f ds)) ≡ map f ds
    maps_again f z h =
        let many : length (map f ds) ≡ 16 = length-map ds f ∙ whole.sixteen in
        ap (λ (n : ℕ). numbers 2 n (bytes_of 2 (map f ds))) (sym many)
        ∙ numbers_bytes 2 (map f ds) (λ d. rw (← z, get_or-map f ds d no_domain) (h d))

    table_again : (n k : ℕ) (vs : List ℕ) → length vs ≡ k → ((i : ℕ) → get_or vs i 0 < 256 ^ n) → numbers n k (bytes_of n vs) ≡ vs
    table_again n k vs e h = ap (λ (m : ℕ). numbers n m (bytes_of n vs)) (sym e) ∙ numbers_bytes n vs h

    counts_again : map counts_in (cut (replicate max_domains 28) (joined (map (λ (x : Domain). counts_bytes x.counts) ds))) ≡ map (λ (x : Domain). x.counts) ds
    counts_again =
        ap (map counts_in)
        (ap (λ (ns : List ℕ). cut ns (joined (map (λ (x : Domain). counts_bytes x.counts) ds))) (sym all_counts)
        ∙ cut_join (map (λ (x : Domain). counts_bytes x.counts) ds))
        ∙ counts_read ds fits.domain

    all_again : state_of g (block_of g s) ≡ s
    unfolding state_of state_in
    all_again = ap (state_in g) parts_again ∙ (λ i. record {
      tables = record {
        tags = table_again 8 (g.sets * g.ways) s.tables.tags whole.shaped.tags_long fits.tags i;
        valid = table_again 2 g.sets s.tables.valid whole.shaped.valid_long fits.valid i;
        dirty = table_again 2 g.sets s.tables.dirty whole.shaped.dirty_long fits.dirty i;
        words = table_again 8 g.sets s.tables.words whole.shaped.words_long fits.words i;
      };
      domains = record { records = (records_again ∙ from_again ds) i };
    })
      where
        records_again : domains_from (numbers 2 16 (bytes_of 2 (map (λ (x : Domain). x.hit) ds))) (numbers 2 16 (bytes_of 2 (map (λ (x : Domain). x.fill) ds)))
            (map counts_in (cut (replicate max_domains 28) (joined (map (λ (x : Domain). counts_bytes x.counts) ds))))
            ≡ domains_from (map (λ (x : Domain). x.hit) ds) (map (λ (x : Domain). x.fill) ds) (map (λ (x : Domain). x.counts) ds)
        records_again = λ i. domains_from
            (maps_again (λ (x : Domain). x.hit) refl (λ d. (fits.domain d).hit) i)
            (maps_again (λ (x : Domain). x.fill) refl (λ d. (fits.domain d).fill) i)
            (counts_again i)

pub state_again : StateAgain
state_again = all_again

-- A block that is written has its length, names its geometry, and has its zero bytes.
pub block_long : BlockLong
unfolding block_of state_bytes
block_long g s whole = joined_long (parts_of g s) ∙ ap sum (parts_long g s whole)

pub geometry_again : GeometryAgain
unfolding block_of state_bytes joined head_of digits field value
geometry_again g s whole r =
    let l = whole.shaped.limited in
    λ i. record { sets = two g.sets (omega (arith, l.most_sets)) i; ways = one g.ways (omega (arith, l.most_ways)) i; rule = one g.rule r i }
  where
    two : (n : ℕ) → n < 65536 → n % 256 + 256 * (n / 256 % 256 + 256 * 0) ≡ n
    two n h = omega arith

    one : (n : ℕ) → n < 256 → n % 256 + 256 * 0 ≡ n
    one n h = omega arith

pub zeros_again : ZerosAgain
unfolding block_of state_bytes joined head_of digits field value
zeros_again g s whole = refl
