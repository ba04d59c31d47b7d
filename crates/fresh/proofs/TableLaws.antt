-- A fresh cache's tables.
use mathlib.Core.Path.{◌≡◌, ap, ◌∙◌}
use mathlib.Core.Bool.{true}
use mathlib.Core.List.{List}
use Prim.Native.Nat.{ℕ}
use lib.ListN.{length, replicate}
use Rattle.waymap.proofs.Booleans.{cases}
use Rattle.replacement.specs.Rule.{rule_of}
use Rattle.std.specs.Prelude.{Result, Ok}
use Rattle.replacement.specs.Calls.{fresh_of as fresh_word}
use Rattle.replacement.specs.Answer.{outcome_of}
use Rattle.replacement.specs.declared.Refusal.{Refusal}
use Rattle.replacement.proofs.CallLaws.{fresh_is}
use Rattle.geometry.specs.Geometry.{within, sized, sizes_of}
use Rattle.geometry.specs.declared.Geometry.{Geometry}
use Rattle.geometry.proofs.GeometryLaws.{sizes_passed}
use Rattle.steps.specs.Tables.{Tables, lengths}
use Rattle.steps.specs.Fresh.{fresh_tables}
use Rattle.fresh.specs.Calls.{made_of, fresh_of}
use Rattle.steps.specs.Step.{tables_of}
use Rattle.steps.specs.Inside.{Shaped}
use Rattle.steps.proofs.SetLaws.{shaped}

-- ---- the call

module _ (g : Geometry) (t : Tables) where
  pub fresh_refused : {n : ℕ} → n ≡ sizes_of g (lengths t) → (n ≡ 0 → ⊥) → made_of n t ≡ fresh_of g t
  unfolding sizes_of fresh_of
  fresh_refused {n} e z =
      cases (within g)
      (λ w. cases (sized g (lengths t))
      (λ s. absurd (z (e ∙ rw (w, s))))
      (λ s. rw (w, s) (ap (λ (k : ℕ). made_of k t) (e ∙ rw (w, s)))))
      (λ w. rw w (ap (λ (k : ℕ). made_of k t) (e ∙ rw w)))

  -- what the geometry passed
  module _ {n : ℕ} (q : n ≡ sizes_of g (lengths t)) (z : n ≡ 0) where
    passed : (within g ≡ true) × (sized g (lengths t) ≡ true)
    passed = sizes_passed g (lengths t) q z

    h : Shaped g t
    h = shaped g t passed.0 passed.1

    pub word_made : {r : Result ℕ Refusal} → outcome_of 0 r ≡ fresh_word g.ways g.rule → r ≡ Ok (rule_of g.rule g.ways).fresh
    word_made f = fresh_is g.ways g.rule h.limited.limits f

    pub fresh_made : {word : ℕ} {tags valid dirty words : List ℕ} → word ≡ (rule_of g.rule g.ways).fresh → tags ≡ replicate (length t.tags) 0
        → valid ≡ replicate (length t.valid) 0 → dirty ≡ replicate (length t.dirty) 0 → words ≡ replicate (length t.words) word
        → made_of 0 (tables_of tags valid dirty words) ≡ fresh_of g t
    unfolding fresh_of fresh_tables
    fresh_made f a b c d = rw (passed.0, passed.1, a, b, c, d, h.tags_long, h.valid_long, h.dirty_long, h.words_long, f)
