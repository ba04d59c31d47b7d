-- A fresh block: all zero, then its geometry and its replacement words.
use Rattle.std.proofs.Common.{◌≡◌, ℕ, zero, suc, ◌+◌, ◌*◌, List, [], ◌∷◌, ◌++◌, map, length, take, drop, replicate, sym, refl, ap, ◌∙◌, ap₂, suc-mul, zero-mul, arith, take_at, drop_at}
use lib.ListN.{length-replicate, replicate-append-replicate}
use lib.Seq.{sets, length-sets}
use Rattle.endian.specs.Bytes.{digits, cut, sum, joined}
use Rattle.runs.specs.Runs.{bytes_of}
use Rattle.endian.proofs.CutLaws.{join_cut, sets_all}
use Rattle.runs.proofs.TableLaws.{bytes_long}
use Rattle.replacement.specs.Rule.{rule_of}
use Rattle.geometry.specs.declared.Geometry.{Geometry}
use Rattle.domains.specs.Domains.{no_domain}
use Rattle.domains.specs.declared.Domain.{Domain}
use Rattle.steps.specs.Fresh.{fresh_tables, fresh_domains, fresh}
use Rattle.block.specs.Layout.{sizes, head_of, counts_bytes, state_bytes, block_of}
use Rattle.block.specs.Inside.{Blocked, named_by}
use Rattle.block.proofs.PartLaws.{start, written, stored}

-- ---- zeros

pub zeros : ℕ → List ℕ
zeros n = replicate n 0

cut_zeros : (ns : List ℕ) → cut ns (zeros (sum ns)) ≡ map zeros ns
unfolding cut zeros
cut_zeros [] = refl
cut_zeros (n ∷ ns) =
    let split : zeros (n + sum ns) ≡ zeros n ++ zeros (sum ns) = sym (replicate-append-replicate n (sum ns) 0) in
    ap₂ (λ (x : List ℕ) (xs : List (List ℕ)). x ∷ xs)
    (ap (take n) split ∙ take_at (zeros n) (zeros (sum ns)) n (length-replicate n 0))
    (ap (λ (xs : List ℕ). cut ns (drop n xs)) split ∙ ap (cut ns) (drop_at (zeros n) (zeros (sum ns)) n (length-replicate n 0)) ∙ cut_zeros ns)

digits_zero : (n : ℕ) → digits n 0 ≡ zeros n
unfolding digits zeros
digits_zero zero = refl
digits_zero (suc n) = ap (λ (xs : List ℕ). 0 ∷ xs) (digits_zero n)

bytes_zeros : (n k : ℕ) → bytes_of n (replicate k 0) ≡ zeros (k * n)
unfolding bytes_of joined zeros
bytes_zeros n zero = ap zeros (sym (zero-mul n))
bytes_zeros n (suc k) =
    let more : n + k * n ≡ suc k * n = rw (suc-mul k n) (omega arith) in
    ap₂ ◌++◌ (digits_zero n) (bytes_zeros n k) ∙ replicate-append-replicate n (k * n) 0 ∙ ap zeros more

-- no domain's counts
no_counts_lem : zeros 448 ≡ joined (map (λ (x : Domain). counts_bytes x.counts) (replicate 16 no_domain))
unfolding zeros joined counts_bytes bytes_of digits
no_counts_lem = refl

-- ---- the two writes

module _ (g : Geometry) (block : List ℕ) (b : Blocked g block) (w : ℕ) where
  abbrev cleared : List ℕ
  cleared = replicate (length block) 0

  abbrev named : List ℕ
  named = sets cleared 0 (named_by g)

  abbrev filled : List ℕ
  filled = sets named (start g 6 + 0) (bytes_of 8 (replicate g.sets w))

  cleared_cut : cut (sizes g) cleared ≡ map zeros (sizes g)
  unfolding zeros
  cleared_cut = ap (λ (n : ℕ). cut (sizes g) (replicate n 0)) b.long ∙ cut_zeros (sizes g)

  named_cut : cut (sizes g) named ≡ written 0 0 (named_by g) (cut (sizes g) cleared)
  unfolding digits sizes
  named_cut = stored g cleared 0 0 (named_by g) (omega arith) (omega arith)

  words_long : length (bytes_of 8 (replicate g.sets w)) ≡ g.sets * 8
  words_long = bytes_long 8 (replicate g.sets w) ∙ ap (λ (n : ℕ). n * 8) (length-replicate g.sets w)

  filled_cut : cut (sizes g) filled ≡ written 6 0 (bytes_of 8 (replicate g.sets w)) (cut (sizes g) named)
  unfolding sizes
  filled_cut = stored g named 6 0 (bytes_of 8 (replicate g.sets w)) (omega arith) (rw words_long (omega arith))

  filled_long : length filled ≡ sum (sizes g)
  filled_long =
      length-sets named (start g 6 + 0) (bytes_of 8 (replicate g.sets w)) ∙ length-sets cleared 0 (named_by g) ∙ length-replicate (length block) 0 ∙ b.long

  -- its parts
  abbrev eight : List (List ℕ)
  eight =
      head_of g ∷ zeros 32 ∷ zeros 32 ∷ zeros 448 ∷ zeros (g.sets * 2) ∷ zeros (g.sets * 2) ∷ bytes_of 8 (replicate g.sets w)
      ∷ zeros (g.sets * g.ways * 8) ∷ []

  parts_are : cut (sizes g) filled ≡ eight
  unfolding sizes zeros head_of digits
  parts_are =
      filled_cut
      ∙ ap (written 6 0 (bytes_of 8 (replicate g.sets w))) (named_cut ∙ ap (written 0 0 (named_by g)) cleared_cut)
      ∙ ap (λ (xs : List ℕ). head_of g ∷ zeros 32 ∷ zeros 32 ∷ zeros 448 ∷ zeros (g.sets * 2) ∷ zeros (g.sets * 2) ∷ xs ∷ zeros (g.sets * g.ways * 8) ∷ [])
      (sets_all (bytes_of 8 (replicate g.sets w)) (zeros (g.sets * 8)) (words_long ∙ sym (length-replicate (g.sets * 8) 0)))

  pub filled_fresh : w ≡ (rule_of g.rule g.ways).fresh → filled ≡ block_of g (fresh g)
  unfolding block_of state_bytes fresh fresh_tables fresh_domains
  filled_fresh e =
      sym (join_cut (sizes g) filled filled_long)
      ∙ ap joined parts_are
      ∙ (λ i. joined
      (head_of g ∷ domain_maps i ∷ domain_maps i ∷ domain_counts i ∷ sym (bytes_zeros 2 g.sets) i ∷ sym (bytes_zeros 2 g.sets) i
      ∷ bytes_of 8 (replicate g.sets (e i)) ∷ sym (bytes_zeros 8 (g.sets * g.ways)) i ∷ []))
    where
      domain_maps : zeros 32 ≡ bytes_of 2 (replicate 16 0)
      domain_maps = sym (bytes_zeros 2 16)

      domain_counts : zeros 448 ≡ joined (map (λ (x : Domain). counts_bytes x.counts) (replicate 16 no_domain))
      domain_counts = no_counts_lem
