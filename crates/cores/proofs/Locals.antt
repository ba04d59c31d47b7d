-- The locals of a function whose MIR is walked by hand: all at once, where a walk begins, is cut into lemmas, and ends; and short names for common steps.
-- A local takes two entries of a context, its cell and then what frees it, and the last local comes first. So of n locals the i-th is found 2 · (n − 1 − i)
-- entries in, past whatever else the walk holds in front of them.
--     Stands           what stands in a local: nothing yet, or a value
--     Blocks ls        where the locals lie.        env     the locals there, as MIR's rules take them
--     locals-at        the entries of the locals, by what stands in each: a list from the first local on, and nothing in those behind its end
--     allocates        a walk's first step: all locals are there, with nothing in them
--     frees_all        its last: all locals are freed, whatever stands in them, and the one entry in front of them is left
--     read, read-field, sets       a local is read, or a field of one; and a local in which nothing stands is assigned
--     holds            what stands in a cell is equal to another value, which is written for it
-- The steps assume `Logic`.
use mathlib.Core.Path.{◌≡◌, sym, subst}
use Prim.Native.Nat.{ℕ, zero, ◌+◌}
use mathlib.Core.Option.{some}
use mathlib.Core.List.{List, [], ◌∷◌}
use seplogic.Ra.Ura.{Ura}
use base.Fraction.{full_share}
use lib.Dec.{T}
use mir.Syntax.{Sym, Ty, ty_struct, Tys, Local, local, Rv as RValue, Body, place, copy, field, seq, assign}
use mir.Val.{Val, Vals, vstruct, WT, has_ty}
use mir.Fields.{get_v, set_v}
use base.Logic.{SProp, ent, sep, via, id⊢, mono_r}
use base.Fml.{Share, fat, froom, fdies}
use prog.Memory.{field_of, field_at}
use prog.Wp.{Heap, Env, Calls, Loops, spot_of, release}
use types.Logic.{Logic}
use types.Kit.{Item, ‵, raw, ◌⊛◌, mean, ⋆, nth, put, Post, Goal, runs, allocs, frees, aim, Seq, Step, step}
use types.Kit.{◌$◌, ◌∵◌, !, qed, move, use1, split, join, frame, done, rewrite}
use types.Run.{Opd, Rv, look, load, from, stop, fld, init, assigns, alloc1, alloc0}
use types.Part.{Part, whole, sub, look_in}

pub data Stands : Type 0 where
  nothing_yet : Stands
  the_value : Val → Stands

-- the first of a list, and the others
abbrev next : List Stands → Stands
next [] = nothing_yet
next (v ∷ vs) = v

abbrev later : List Stands → List Stands
later [] = []
later (v ∷ vs) = vs

abbrev pub Blocks : List Local → Type 0
Blocks [] = Unit {0}
Blocks (l ∷ ls) = ℕ × Blocks ls

abbrev pub env : {M : Type 1} {𝓤 : Ura M} (H : Heap 𝓤) (ls : List Local) → Blocks ls → Env 𝓤 H
env H [] bs = []
env H (local τ h ∷ ls) bs = (τ, bs.0) ∷ env H ls bs.1

module _ {M : Type 1} {𝓤 : Ura M} where
  abbrev cell : Ty → ℕ → Stands → Item 𝓤
  cell τ b nothing_yet = ‵ (froom τ b 0)
  cell τ b (the_value v) = ‵ (fat full_share τ b 0 v)

  abbrev pub locals_at : (ls : List Local) → Blocks ls → List Stands → List (Item 𝓤) → List (Item 𝓤)
  locals_at [] bs vs Γ = Γ
  locals_at (local τ h ∷ ls) bs vs Γ = locals_at ls bs.1 (later vs) (cell τ bs.0 (next vs) ∷ ‵ (fdies τ bs.0) ∷ Γ)

module _ {M : Type 1} {𝓤 : Ura M} {𝓛 : Logic 𝓤} {K : Type 0} where
  open 𝓛 use {H}

  pub allocates : K → (ls : List Local) {Γ : List (Item 𝓤)} {G : Env 𝓤 H → Goal 𝓤 H}
      → ((bs : Blocks ls) → Seq K 𝓛 (locals_at ls bs [] Γ) (G (env H ls bs))) → Seq K 𝓛 Γ (allocs ls G)
  allocates t [] k = alloc0 t $ k tt
  allocates t (local τ h ∷ ls) k = alloc1 t (λ b. allocates t ls (λ bs. k (b, bs)))

-- ---- freeing
module _ {M : Type 1} {𝓤 : Ura M} (𝓛 : Logic 𝓤) where
  open 𝓛 use {H}

  abbrev freed : Ty × ℕ → SProp 𝓤
  freed e = sep 𝓤 (H.room e.0 e.1 zero) (H.dies e.0 e.1)

  -- of what is had beside the freed locals, a part can be had in front of them
  before : (E : Env 𝓤 H) (P Q R : SProp 𝓤) → ent 𝓤 Q (sep 𝓤 P R) → ent 𝓤 (release 𝓤 H E Q) (sep 𝓤 P (release 𝓤 H E R))
  before [] P Q R h = h
  before (e ∷ E) P Q R h =
      qed 𝓛 (raw (freed e) ∷ raw (release 𝓤 H E Q) ∷ []) ∵ move ! (1 ∷ []) $
      use1 𝓛 (raw P ⊛ raw (release 𝓤 H E R)) (before E P Q R h) $ split ! $ frame ! $ move ! (1 ∷ 0 ∷ []) $ done !

  beside : (E : Env 𝓤 H) (P Q : SProp 𝓤) → ent 𝓤 P Q → ent 𝓤 (release 𝓤 H E P) (release 𝓤 H E Q)
  beside [] P Q h = h
  beside (e ∷ E) P Q h = mono_r 𝓤 (freed e) (beside E P Q h)

  -- a cell is room, whatever stands there
  room : (τ : Ty) (b : ℕ) (v : Stands) → ent 𝓤 (mean 𝓛 (cell τ b v)) (H.room τ b 0)
  room τ b nothing_yet = id⊢ 𝓤 (H.room τ b 0)
  room τ b (the_value v) = 𝓛.laws.at_room τ b 0 v

  one_out : (τ : Ty) (b : ℕ) (v : Stands) (i : Item 𝓤) (Γ : List (Item 𝓤))
      → ent 𝓤 (⋆ 𝓛 (i ∷ cell τ b v ∷ ‵ (fdies τ b) ∷ Γ)) (sep 𝓤 (freed (τ, b)) (⋆ 𝓛 (i ∷ Γ)))
  one_out τ b v i Γ =
      qed 𝓛 (i ∷ cell τ b v ∷ ‵ (fdies τ b) ∷ Γ) ∵ move ! (1 ∷ 2 ∷ []) $ use1 𝓛 (‵ (froom τ b 0)) (room τ b v) $ join ! $ frame ! $ done !

  all_out : (ls : List Local) (bs : Blocks ls) (vs : List Stands) (i : Item 𝓤) (Γ : List (Item 𝓤))
      → ent 𝓤 (⋆ 𝓛 (i ∷ locals_at ls bs vs Γ)) (release 𝓤 H (env H ls bs) (⋆ 𝓛 (i ∷ Γ)))
  all_out [] bs vs i Γ = id⊢ 𝓤 (⋆ 𝓛 (i ∷ Γ))
  all_out (local τ h ∷ ls) bs vs i Γ =
      let Δ : List (Item 𝓤) = cell τ bs.0 (next vs) ∷ ‵ (fdies τ bs.0) ∷ Γ in
      via 𝓤 (release 𝓤 H (env H ls bs.1) (⋆ 𝓛 (i ∷ Δ))) (all_out ls bs.1 (later vs) i Δ)
      (before (env H ls bs.1) (freed (τ, bs.0)) (⋆ 𝓛 (i ∷ Δ)) (⋆ 𝓛 (i ∷ Γ)) (one_out τ bs.0 (next vs) i Γ))

module _ {M : Type 1} {𝓤 : Ura M} {𝓛 : Logic 𝓤} {K : Type 0} where
  open 𝓛 use {H}

  pub frees_all : K → (ls : List Local) (bs : Blocks ls) (vs : List Stands) {i : Item 𝓤} {g : Goal 𝓤 H}
      → Step K 𝓛 (i ∷ []) g (i ∷ locals_at ls bs vs []) (frees (env H ls bs) g)
  frees_all t ls bs vs {i} {g} = step (λ s. record {
    prf = via 𝓤 (release 𝓤 H (env H ls bs) (⋆ 𝓛 (i ∷ []))) (all_out 𝓛 ls bs vs i [])
        (beside 𝓛 (env H ls bs) (⋆ 𝓛 (i ∷ [])) (aim 𝓤 H g) s.prf);
  })

-- ---- short names
module _ {M : Type 1} {𝓤 : Ura M} {𝓛 : Logic 𝓤} {K : Type 0} {Γ : List (Item 𝓤)} {E : Env 𝓤 𝓛.H} where
  open 𝓛 use {H}

  pub read : K → (n : ℕ) {k : ℕ} {q : Share} {v : Val} → nth 𝓛 n Γ ≡ ‵ (fat q (spot_of 𝓤 H E k).0 (spot_of 𝓤 H E k).1 0 v)
      → Opd K 𝓛 Γ E (copy (place k [])) v
  read t n e = load t (from t (stop t)) (look t n e)

  pub read_field : K → (n : ℕ) {k j : ℕ} {τ : Ty} {d : ℕ} {q : Share} {ν : Sym} {τs : Tys} {vs : Vals} → field_of (spot_of 𝓤 H E k).0 j ≡ some (τ, d)
      → nth 𝓛 n Γ ≡ ‵ (fat q (ty_struct ν τs) (spot_of 𝓤 H E k).1 0 (vstruct vs)) → field_at zero τs j ≡ some (τ, d)
      → Opd K 𝓛 Γ E (copy (place k (field j ∷ []))) (get_v vs j)
  read_field t n {k} {j} {τ} {d} {q} {ν} {τs} {vs} f e at_j =
      let b : ℕ = (spot_of 𝓤 H E k).1 in
      let back : Val → Item 𝓤 = λ u. ‵ (fat q (ty_struct ν τs) b 0 (vstruct (set_v vs j u))) in
      load t (from t (fld t f (stop t))) (look_in t n (subst (λ (i : Item 𝓤). Part K 𝓛 i q τ b (0 + d) (get_v vs j) back) (sym e) (sub t j at_j (whole t))))

  pub sets : K → {C : Calls 𝓤 H} {Λ : Loops 𝓤 H} {q : Post 𝓤 H} {k : ℕ} {rv : RValue} {rest : Body} {v : Val} → Rv K 𝓛 Γ E rv v → (n : ℕ)
      → nth 𝓛 n Γ ≡ ‵ (froom (spot_of 𝓤 H E k).0 (spot_of 𝓤 H E k).1 0) → T (has_ty (spot_of 𝓤 H E k).0 v) × WT v
      → Step K 𝓛 (put 𝓛 n (‵ (fat full_share (spot_of 𝓤 H E k).0 (spot_of 𝓤 H E k).1 0 v)) Γ) (runs C Λ E rest q)
      Γ (runs C Λ E (seq (assign (place k []) rv) rest) q)
  sets t r n e typed = assigns t r (from t (stop t)) (init t n e typed)

module _ {M : Type 1} {𝓤 : Ura M} {𝓛 : Logic 𝓤} {K : Type 0} {Γ : List (Item 𝓤)} {G : Goal 𝓤 𝓛.H} where
  pub holds : K → (n : ℕ) {q : Share} {τ : Ty} {b o : ℕ} {u v : Val} → u ≡ v → nth 𝓛 n Γ ≡ ‵ (fat q τ b o u)
      → Step K 𝓛 (put 𝓛 n (‵ (fat q τ b o v)) Γ) G Γ G
  holds t n {q} {τ} {b} {o} e at_n = rewrite t n (λ (w : Val). ‵ (fat q τ b o w)) e at_n
