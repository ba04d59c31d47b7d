-- The states that a run from a fresh cache reaches, and what holds in all of them.
use mathlib.Core.Path.{◌≡◌, refl, sym, subst, ap, fun_ext, ◌∙◌}
use mathlib.Core.Bool.{Bool, true, false, cond}
use mathlib.Core.List.{List, [], ◌∷◌, ◌++◌}
use Prim.Native.Nat.{ℕ, ◌<◌}
use native.Mathlib.Nat.{le_of_eq}
use native.Mathlib.Omega.{arith}
use lib.ListN.{get_or-replicate}
use Rattle.waymap.specs.Bits.{Bits, bit}
use Rattle.waymap.proofs.BitLaws.{bit_none}
use Rattle.replacement.specs.Rule.{rule_of}
use Rattle.row.specs.Row.{lines_in}
use Rattle.row.proofs.LinesLaws.{lines_none}
use Rattle.policy.specs.Policy.{bad_argument}
use Rattle.policy.specs.declared.Maps.{Maps}
use Rattle.command.specs.Command.{Command}
use Rattle.domains.specs.Domains.{domain_of, policies}
use Rattle.verdict.specs.Refusal.{use_refusal, sharing_refusal}
use Rattle.geometry.specs.Geometry.{within}
use Rattle.geometry.specs.Address.{set_of}
use Rattle.geometry.specs.Inside.{Limited}
use Rattle.geometry.specs.declared.Geometry.{Geometry}
use Rattle.geometry.proofs.GeometryLaws.{limited}
use Rattle.steps.specs.Tables.{row_at}
use Rattle.steps.specs.Step.{State, row_effect, use_line, change_policy}
use Rattle.steps.specs.Run.{step_on, finally}
use Rattle.steps.specs.Fresh.{fresh_tables, fresh}
use Rattle.steps.specs.Inside.{Whole, change_number, line_work}
use Rattle.steps.proofs.TotalLaws.{total_le}
use Rattle.steps.proofs.StateLaws.{line_policy}
use Rattle.steps.specs.Statements.{Kept}
use Rattle.steps.proofs.RunLaws.{run_lasts, fresh_kept, fresh_domain, line_kept, change_kept, inside, worked, worked_long}
use Rattle.reached.specs.Reached.{Reached, Separate}
use Rattle.reached.specs.Balance.{held, Balanced}
use Rattle.reached.specs.Inside.{Empty, FillsFit}
use Rattle.reached.specs.Statements.{ReachedSeparate, ReachedEmpty, ReachedBalanced, ReachedUnspent, NumberSame}
use Rattle.reached.proofs.SeparateLaws.{separate_after, fresh_separate}
use Rattle.reached.proofs.LineBalance.{line_balanced, line_fills, line_empty}
use Rattle.reached.proofs.PolicyBalance.{change_balanced, change_fills, change_empty}
use Rattle.reached.proofs.SpentLaws.{number_is, not_seven}

-- a step and a list of steps lead on
one_more : (g : Geometry) (c : Command) (cs : List Command) (s : State) → finally g (cs ++ (c ∷ [])) s ≡ (step_on g c (finally g cs s)).state
unfolding finally
one_more g c [] s = refl
one_more g c (b ∷ cs) s = one_more g c cs (step_on g b s).state

module _ (g : Geometry) where
  pub fresh_reached : Reached g (fresh g)
  unfolding finally
  fresh_reached = record { past = []; is = refl }

  pub run_reached : (cs : List Command) → Reached g (finally g cs (fresh g))
  run_reached cs = record { past = cs; is = refl }

  pub step_reached : (c : Command) (s : State) → Reached g s → Reached g (step_on g c s).state
  step_reached c s r = record {
    past = r.past ++ (c ∷ []);
    is = ap (λ (t : State). (step_on g c t).state) r.is ∙ sym (one_more g c r.past (fresh g));
  }

-- ---- what holds in all of them

module _ (g : Geometry) (limits : within g ≡ true) where
  l : Limited g
  l = limited g limits

  -- Tables and domains are whole, stored policies are as they are read, the domains are separate, ways that no domain holds are empty, and every
  -- domain's fills fit their count and balance.
  pub record Sound (s : State) : Type 0 where
    pub kept : Kept g limits s
    pub separate : Separate g (policies g.ways s.domains)
    pub empty : Empty g s
    pub fills_fit : (d : ℕ) → d < 16 → FillsFit d s
    pub balanced : (d : ℕ) → d < 16 → Balanced g d s

  module _ (s : State) (sound : Sound s) (e : ℕ) (k : e < 16) where
    line_separate : (arg : ℕ) (flushes store : Bool)
        → Separate g (policies g.ways (use_line g (line_work flushes (rule_of g.rule g.ways) store) e arg s).state.domains)
    unfolding use_line row_effect
    line_separate arg flushes store =
        subst (Separate g)
        (sym (fun_ext (line_policy g s sound.kept.whole e k (set_of g arg) (inside g limits s sound.kept e k arg)
        (worked g limits s sound.kept e k arg flushes store) (worked_long g limits s sound.kept e k arg flushes store))))
        sound.separate

    line_sound : use_refusal (policies g.ways s.domains e) (domain_of s.domains e).counts ≡ 0 → (arg : ℕ) (flushes store : Bool)
        → Sound (use_line g (line_work flushes (rule_of g.rule g.ways) store) e arg s).state
    line_sound z arg flushes store = record {
      kept = line_kept g limits s sound.kept e k arg flushes store;
      separate = line_separate arg flushes store;
      empty = line_empty g limits s sound.kept sound.separate e k arg flushes store sound.empty;
      fills_fit = line_fills g limits s sound.kept sound.separate e k arg flushes store sound.fills_fit z;
      balanced = line_balanced g limits s sound.kept sound.separate e k arg flushes store sound.balanced;
    }

    change_sound : (arg : ℕ) → change_number g e arg s ≡ 0 → Sound (change_policy g e arg s).state
    change_sound arg z = record {
      kept = change_kept g limits s sound.kept e k arg z;
      separate = separate_after g l e k arg s sound.kept.whole sound.separate z;
      empty = change_empty g limits s sound.kept sound.separate sound.empty e k arg z;
      fills_fit = change_fills g limits s sound.kept sound.separate sound.empty e k arg z sound.fills_fit;
      balanced = change_balanced g limits s sound.kept sound.separate sound.empty e k arg z sound.balanced;
    }

  -- in a fresh cache nothing is valid
  fresh_row : (i w : ℕ) → i < g.sets → bit (row_at g.ways i (fresh g).tables).valid w ≡ false
  unfolding fresh fresh_tables row_at
  fresh_row i w h = rw (get_or-replicate {A = ℕ} g.sets i 0 0 h) (bit_none w)

  fresh_held : (d : ℕ) → held g d (fresh g) ≡ 0
  unfolding held
  fresh_held d =
      let map : Bits = bit (policies g.ways (fresh g).domains d).hit in
      let few = total_le g.ways g.sets 0 (lines_in map) (fresh g).tables
      (λ i h. le_of_eq (lines_none map (row_at g.ways i (fresh g).tables) (λ w hw t. fresh_row i w h))) in
      omega (arith, few)

  fresh_sound : Sound (fresh g)
  unfolding Balanced
  fresh_sound = record {
    kept = fresh_kept g limits;
    separate = fresh_separate g limits l;
    empty = λ w i hw hi none. fresh_row i w hi;
    fills_fit = λ d low. rw (fresh_domain g limits d) (omega arith);
    balanced = λ d low. rw (fresh_domain g limits d, fresh_held d);
  }

  run_sound : (cs : List Command) → Sound (finally g cs (fresh g))
  run_sound cs = run_lasts g limits Sound (λ s q. q.kept.whole) line_sound change_sound cs (fresh g) fresh_sound

  module _ (s : State) (r : Reached g s) where
    reached_sound : Sound s
    reached_sound = subst Sound (sym r.is) (run_sound r.past)

    pub reached_kept : Kept g limits s
    reached_kept = reached_sound.kept

    pub reached_whole : Whole g s
    reached_whole = reached_kept.whole

    -- the verdict on a change of policy goes by the policies alone
    reached_number : (e : ℕ) → e < 16 → (arg : ℕ)
        → change_number g e arg s ≡ cond (bad_argument g.ways arg) 5 (sharing_refusal g (policies g.ways s.domains) e arg)
    reached_number e k arg = number_is g s reached_whole reached_sound.empty e arg (reached_sound.balanced e k) (reached_sound.fills_fit e k)

-- no two domains share a way or a node
pub reached_separate : ReachedSeparate
reached_separate g limits s r = (reached_sound g limits s r).separate

-- a way that no domain holds has no line
pub reached_empty : ReachedEmpty
reached_empty g limits s r = (reached_sound g limits s r).empty

-- every domain's lines in and lines out balance
pub reached_balanced : ReachedBalanced
reached_balanced g limits s r = (reached_sound g limits s r).balanced

-- and so the verdict on a change of policy is never number 7
pub reached_unspent : ReachedUnspent
reached_unspent g limits s r e k arg q = not_seven g (policies g.ways s.domains) e arg (sym (reached_number g limits s r e k arg) ∙ q)

-- So two states with the same policies give a change the same number, whatever either would drop.
pub number_same : NumberSame
number_same g limits a b r q same e k arg =
    reached_number g limits a r e k arg
    ∙ ap (λ (p : ℕ → Maps). cond (bad_argument g.ways arg) 5 (sharing_refusal g p e arg)) (fun_ext same)
    ∙ sym (reached_number g limits b q e k arg)
