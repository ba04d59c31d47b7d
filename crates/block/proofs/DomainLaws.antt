-- The domains of a block: what stands there, and a domain's record put.
use Rattle.std.proofs.Common.{◌≡◌, ℕ, zero, suc, ◌+◌, ◌*◌, ◌^◌, ◌<◌, ◌≤◌, List, [], ◌∷◌, map, length, get_or, take, drop, set, replicate, sym, refl, ap, ◌∙◌, le_of_eq, arith, drop-drop}
use lib.ListN.{get_or-map, length-map}
use lib.Seq.{sets}
use Rattle.endian.specs.Bytes.{value, digits, field, cut, put_field}
use Rattle.runs.specs.Runs.{numbers}
use Rattle.endian.proofs.CutLaws.{part_in, cut_long}
use Rattle.runs.proofs.TableLaws.{map_set, chunk, chunks_put, numbers_put, numbers_front, numbers_bytes, numbers_long, bytes_long}
use Rattle.geometry.specs.declared.Geometry.{Geometry}
use Rattle.domains.specs.Domains.{max_domains, no_counts, no_domain, domain_of, put_domain}
use Rattle.domains.specs.declared.Counts.{Counts}
use Rattle.domains.specs.declared.Domain.{Domain}
use Rattle.domains.specs.declared.Domains.{Domains}
use Rattle.block.specs.Layout.{sizes, counts_from, counts_in, domains_from, state_in, seven_of, counts_bytes}
use Rattle.block.specs.Inside.{Blocked, contents_in, contents, with_domain}
use Rattle.block.specs.Statements.{CountsFit}
use Rattle.block.proofs.PartLaws.{part, size, start, written, part_is, part_long, number_of, stored, put_stored}

-- ---- records side by side

from_at : (hs fs : List ℕ) (cs : List Counts) (d : ℕ) → d < length hs → d < length fs → d < length cs
    → get_or (domains_from hs fs cs) d no_domain ≡ record { hit = get_or hs d 0; fill = get_or fs d 0; counts = get_or cs d no_counts }
unfolding domains_from
from_at [] fs cs d h f c = absurd (omega arith)
from_at (x ∷ hs) [] cs d h f c = absurd (omega arith)
from_at (x ∷ hs) (y ∷ fs) [] d h f c = absurd (omega arith)
from_at (x ∷ hs) (y ∷ fs) (z ∷ cs) zero h f c = refl
from_at (x ∷ hs) (y ∷ fs) (z ∷ cs) (suc d) h f c = from_at hs fs cs d (omega arith) (omega arith) (omega arith)

from_set : (hs fs : List ℕ) (cs : List Counts) (d : ℕ) (x : Domain)
    → domains_from (set hs d x.hit) (set fs d x.fill) (set cs d x.counts) ≡ set (domains_from hs fs cs) d x
unfolding domains_from
from_set [] fs cs d x = refl
from_set (h ∷ hs) [] cs zero x = refl
from_set (h ∷ hs) [] cs (suc d) x = refl
from_set (h ∷ hs) (f ∷ fs) [] zero x = refl
from_set (h ∷ hs) (f ∷ fs) [] (suc d) x = refl
from_set (h ∷ hs) (f ∷ fs) (c ∷ cs) zero x = refl
from_set (h ∷ hs) (f ∷ fs) (c ∷ cs) (suc d) x = ap (λ (xs : List Domain). record { hit = h; fill = f; counts = c } ∷ xs) (from_set hs fs cs d x)

-- ---- counts

pub seven_fit : (c : Counts) → CountsFit c → (i : ℕ) → get_or (seven_of c) i 0 < 256 ^ 4
seven_fit c f zero = f.hits
seven_fit c f (suc zero) = f.misses
seven_fit c f (suc (suc zero)) = f.evicted
seven_fit c f (suc (suc (suc zero))) = f.written
seven_fit c f (suc (suc (suc (suc zero)))) = f.flushed
seven_fit c f (suc (suc (suc (suc (suc zero))))) = f.fills
seven_fit c f (suc (suc (suc (suc (suc (suc zero)))))) = f.dropped
seven_fit c f (suc (suc (suc (suc (suc (suc (suc i))))))) = omega arith

pub counts_long : (c : Counts) → length (counts_bytes c) ≡ 28
unfolding counts_bytes
counts_long c = bytes_long 4 (seven_of c)

pub counts_back : (c : Counts) → CountsFit c → counts_in (counts_bytes c) ≡ c
unfolding counts_in counts_from counts_bytes
counts_back c f = ap counts_from (numbers_bytes 4 (seven_of c) (seven_fit c f))

-- They see no byte behind them.
counts_front : (k : ℕ) (bytes : List ℕ) → 28 ≤ k → counts_in (take k bytes) ≡ counts_in bytes
unfolding counts_in
counts_front k bytes h = ap counts_from (numbers_front 4 7 k bytes h)

no_counts_lem : counts_in [] ≡ no_counts
unfolding counts_in counts_from numbers cut value
no_counts_lem = refl

-- ---- read

abbrev pub domains_in : Geometry → List ℕ → Domains
domains_in g block = (contents g block).state.domains

-- The counts in part 3.
abbrev counts_of : Geometry → List ℕ → List Counts
counts_of g block = map counts_in (cut (replicate max_domains 28) (part g block 3))

counts_many : (g : Geometry) (block : List ℕ) → length (counts_of g block) ≡ 16
counts_many g block = length-map (cut (replicate max_domains 28) (part g block 3)) counts_in ∙ cut_long (replicate max_domains 28) (part g block 3)

module _ (g : Geometry) (block : List ℕ) (d : ℕ) (h : d < 16) where
  counts_read : get_or (counts_of g block) d no_counts ≡ counts_in (drop (start g 3 + d * 28) block)
  unfolding sizes
  counts_read =
      ap (λ (z : Counts). get_or (counts_of g block) d z) (sym no_counts_lem)
      ∙ get_or-map counts_in (cut (replicate max_domains 28) (part g block 3)) d []
      ∙ ap counts_in
      (chunk 28 16 (part g block 3) d h
      ∙ ap (λ (p : List ℕ). take 28 (drop (d * 28) p)) (part_is g block 3 (omega arith))
      ∙ part_in 28 (d * 28) 448 (drop (start g 3) block) (omega arith)
      ∙ ap (take 28) (drop-drop (d * 28) (start g 3) block))
      ∙ counts_front 28 (drop (start g 3 + d * 28) block) (omega arith)

  pub domain_read : domain_of (domains_in g block) d
      ≡ record { hit = field (8 + 2 * d) 2 block; fill = field (40 + 2 * d) 2 block; counts = counts_in (drop (72 + 28 * d) block) }
  unfolding domain_of contents contents_in state_in sizes
  domain_read =
      let hit_at : start g 1 + d * 2 ≡ 8 + 2 * d = omega arith in
      let fill_at : start g 2 + d * 2 ≡ 40 + 2 * d = omega arith in
      let counts_at : start g 3 + d * 28 ≡ 72 + 28 * d = omega arith in
      from_at (numbers 2 16 (part g block 1)) (numbers 2 16 (part g block 2)) (counts_of g block) d (rw (numbers_long 2 16 (part g block 1)) h)
      (rw (numbers_long 2 16 (part g block 2)) h) (rw (counts_many g block) h)
      ∙ (λ i. record {
        hit = (number_of g block 1 2 16 d (omega arith) refl h ∙ ap (λ (a : ℕ). field a 2 block) hit_at) i;
        fill = (number_of g block 2 2 16 d (omega arith) refl h ∙ ap (λ (a : ℕ). field a 2 block) fill_at) i;
        counts = (counts_read ∙ ap (λ (a : ℕ). counts_in (drop a block)) counts_at) i;
      })

-- ---- put

module _ (g : Geometry) (block : List ℕ) (d : ℕ) (h : d < 16) (b : Blocked g block) (x : Domain)
    (hit_fits : x.hit < 256 ^ 2) (fill_fits : x.fill < 256 ^ 2) (counts_fit : CountsFit x.counts) where
  abbrev one : List ℕ
  one = put_field (8 + 2 * d) 2 x.hit block

  abbrev two : List ℕ
  two = put_field (40 + 2 * d) 2 x.fill one

  one_put : (cut (sizes g) one ≡ written 1 (d * 2) (digits 2 x.hit) (cut (sizes g) block)) × (length one ≡ length block)
  unfolding sizes
  one_put = put_stored g block 1 2 16 d x.hit (omega arith) refl h b (omega arith)

  pub one_blocked : Blocked g one
  one_blocked = record { limited = b.limited; long = one_put.1 ∙ b.long }

  two_put : (cut (sizes g) two ≡ written 2 (d * 2) (digits 2 x.fill) (cut (sizes g) one)) × (length two ≡ length one)
  unfolding sizes
  two_put = put_stored g one 2 2 16 d x.fill (omega arith) refl h one_blocked (omega arith)

  pub two_blocked : Blocked g two
  two_blocked = record { limited = b.limited; long = two_put.1 ∙ one_blocked.long }

  three_put : cut (sizes g) (sets two (72 + 28 * d) (counts_bytes x.counts)) ≡ written 3 (d * 28) (counts_bytes x.counts) (cut (sizes g) two)
  unfolding sizes
  three_put =
      let place : 72 + 28 * d ≡ start g 3 + d * 28 = omega arith in
      ap (λ (a : ℕ). cut (sizes g) (sets two a (counts_bytes x.counts))) place
      ∙ stored g two 3 (d * 28) (counts_bytes x.counts) (omega arith) (rw (counts_long x.counts) (omega arith))

  all_put : cut (sizes g) (sets two (72 + 28 * d) (counts_bytes x.counts))
      ≡ written 3 (d * 28) (counts_bytes x.counts) (written 2 (d * 2) (digits 2 x.fill) (written 1 (d * 2) (digits 2 x.hit) (cut (sizes g) block)))
  all_put =
      three_put
      ∙ ap (written 3 (d * 28) (counts_bytes x.counts)) (two_put.0 ∙ ap (written 2 (d * 2) (digits 2 x.fill)) one_put.0)

  maps_put : (i v : ℕ) → i < 8 → size g i ≡ 32 → v < 256 ^ 2
      → numbers 2 16 (sets (part g block i) (d * 2) (digits 2 v)) ≡ set (numbers 2 16 (part g block i)) d v
  maps_put i v k e f = numbers_put 2 16 (part g block i) d v h (le_of_eq (sym (part_long g block i k b ∙ e))) f

  counts_put : map counts_in (cut (replicate max_domains 28) (sets (part g block 3) (d * 28) (counts_bytes x.counts))) ≡ set (counts_of g block) d x.counts
  unfolding sizes
  counts_put =
      ap (map counts_in) (chunks_put 28 16 (part g block 3) d (counts_bytes x.counts) h
      (le_of_eq (sym (part_long g block 3 (omega arith) b))) (counts_long x.counts))
      ∙ map_set counts_in (cut (replicate max_domains 28) (part g block 3)) d (counts_bytes x.counts)
      ∙ ap (λ (c : Counts). set (counts_of g block) d c) (counts_back x.counts counts_fit)

  pub domain_put : contents g (sets two (72 + 28 * d) (counts_bytes x.counts)) ≡ with_domain d x (contents g block)
  unfolding contents contents_in state_in sizes put_domain cut
  domain_put = ap (contents_in g) all_put ∙ (λ i. record {
    head = part g block 0;
    state = record {
      tables = (contents g block).state.tables;
      domains = record { records = (records_put ∙ from_set (numbers 2 16 (part g block 1)) (numbers 2 16 (part g block 2)) (counts_of g block) d x) i };
    };
  })
    where
      records_put : domains_from (numbers 2 16 (sets (part g block 1) (d * 2) (digits 2 x.hit)))
          (numbers 2 16 (sets (part g block 2) (d * 2) (digits 2 x.fill)))
          (map counts_in (cut (replicate max_domains 28) (sets (part g block 3) (d * 28) (counts_bytes x.counts))))
          ≡ domains_from (set (numbers 2 16 (part g block 1)) d x.hit) (set (numbers 2 16 (part g block 2)) d x.fill)
          (set (counts_of g block) d x.counts)
      records_put = λ i. domains_from (maps_put 1 x.hit (omega arith) refl hit_fits i) (maps_put 2 x.fill (omega arith) refl fill_fits i) (counts_put i)
