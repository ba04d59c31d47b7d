-- Laws of states, blocks and runs that no other crate goes by, used: each in other words, for all that it is claimed of.
use mathlib.Core.Path.{◌≡◌, refl, sym, ap, subst, ◌∙◌}
use mathlib.Core.Bool.{true, false}
use mathlib.Core.List.{List}
use Prim.Native.Nat.{ℕ, suc, ◌≤◌, ◌<◌}
use native.Mathlib.Omega.{arith}
use lib.ListN.{length, get_or, take}
use Rattle.waymap.specs.Bits.{Bits, bit}
use Rattle.runs.specs.Runs.{Bytes}
use Rattle.command.specs.Command.{Command}
use Rattle.policy.specs.Policy.{new_maps}
use Rattle.row.specs.Row.{lines_in}
use Rattle.sweep.specs.Number.{lines_among}
use Rattle.geometry.specs.Named.{geometry_of}
use Rattle.geometry.specs.Geometry.{within}
use Rattle.geometry.specs.declared.Geometry.{Geometry}
use Rattle.domains.specs.Domains.{policies}
use Rattle.selectors.specs.Selectors.{names_core, coreless, fresh_cores, Meant}
use Rattle.selectors.specs.Calls.{meaning_is}
use Rattle.selectors.specs.declared.Core.{Core}
use Rattle.selectors.specs.declared.Meaning.{Meaning}
use Rattle.command.specs.declared.Refusal.{Refusal}
use Rattle.std.specs.Prelude.{Result as Calling}
use Rattle.selectors.proofs.MeantLaws.{meaning_injective}
use Rattle.verdict.specs.Refusal.{shares_way}
use Rattle.purge.specs.Purge.{purge, core_purge}
use Rattle.purge.proofs.CoreLaws.{purge_others}
use Rattle.steps.specs.Tables.{Tables, row_at, total}
use Rattle.steps.specs.Step.{State, Outcome, dropped_by, drops_of}
use Rattle.steps.specs.Run.{step_on, finally}
use Rattle.steps.specs.Fresh.{fresh}
use Rattle.steps.specs.Inside.{Shaped, Whole}
use Rattle.steps.proofs.DropLaws.{drops_all}
use Rattle.steps.proofs.TotalLaws.{among_total}
use Rattle.cache.specs.Calls.{outcome}
use Rattle.cache.specs.declared.Stepped.{Stepped as CacheStepped}
use Rattle.cache.proofs.OutcomeLaws.{outcome_injective}
use Rattle.cores.specs.Step.{Lent, Result, core_step}
use Rattle.cores.specs.Calls.{Turn, result_of, turn_is}
use Rattle.cores.specs.declared.Stepped.{Stepped as CoresStepped}
use Rattle.cores.specs.declared.Turned.{Turned}
use Rattle.cores.proofs.ReplyLaws.{result_injective, turn_injective}
use Rattle.cores.proofs.OtherLaws.{other_step}
use Rattle.reached.specs.Reached.{Reached}
use Rattle.reached.proofs.Reached.{reached_empty}
use Rattle.demand.specs.Demand as Flat
use Rattle.demand.specs.Demand.{Limits}
use Rattle.demand.proofs.LimitLaws.{fresh_is}
use Rattle.demand.proofs.RunLaws.{end_is, struck_is}
use Rattle.block.specs.Layout.{block_bytes, zeros_in, head_of, state_of, block_of}
use Rattle.block.specs.Block.{block_refusal, fresh_call, step_call}
use Rattle.block.specs.Statements.{StateFits}
use Rattle.block.proofs.LayoutLaws.{head_again}
use Rattle.block.proofs.RefusedLaws.{step_refused_leaves, fresh_refused_leaves, passed_again}
use Rattle.block.proofs.RoundLaws.{state_again, block_long, geometry_again, zeros_again}

-- ---- what the contracts of a step equate is told apart from all else

steps_settled : (p q : CacheStepped) (t u : Tables) (o : Outcome) → outcome p t ≡ o → outcome q u ≡ o → (p ≡ q) × (t ≡ u)
steps_settled p q t u o e f = outcome_injective p q t u (e ∙ sym f)

core_steps_settled : (p q : CoresStepped) (t u : Tables) (x y : List Core) (r : Result)
    → result_of p t x ≡ r → result_of q u y ≡ r → (p ≡ q) × (t ≡ u) × (x ≡ y)
core_steps_settled p q t u x y r e f = result_injective p q t u x y (e ∙ sym f)

turns_settled : (p q : Turned) (t u : Tables) (r : Turn) → turn_is p t ≡ r → turn_is q u ≡ r → (p ≡ q) × (t ≡ u)
turns_settled p q t u r e f = turn_injective p q t u (e ∙ sym f)

meanings_told : (p q : Calling Meaning Refusal) (m : Meant) → meaning_is p ≡ m → meaning_is q ≡ m → p ≡ q
meanings_told p q m e f = meaning_injective p q (e ∙ sym f)

-- ---- steps and runs

-- A step that names no core answers what the cache answers, whatever up to 32 records hold; and a list of such steps has one struck-out list.
no_core_answer : (g : Geometry) (c : Command) (x : Lent) → length x.cores ≤ 32 → names_core c.kind ≡ false
    → (core_step g c x).answer ≡ (step_on g c x.cache).answer
no_core_answer g c x few other = ap (λ (r : Result). r.answer) (other_step g c x other few)

no_core_list : (d : ℕ) (cs : List Command) → coreless cs ≡ true → (x y : List Core) → core_purge d x cs ≡ core_purge d y cs
no_core_list d cs other x y = purge_others d cs x other ∙ sym (purge_others d cs y other)

-- The flat statement's run of the struck-out list is the product's.
flat_is_product : (g : Geometry) → Limits g → (d : ℕ) (cs : List Command)
    → Flat.end g (Flat.struck_out d cs) (Flat.fresh g) ≡ finally g (purge d cs) (fresh g)
flat_is_product g l d cs =
    ap (λ (s : State). Flat.end g (Flat.struck_out d cs) s) (fresh_is g l)
    ∙ end_is g (Flat.struck_out d cs) (fresh g) ∙ ap (λ (bs : List Command). finally g bs (fresh g)) (struck_is d cs)

-- A valid line lies in a way that some domain holds.
no_line_of_nobody : (g : Geometry) → within g ≡ true → (s : State) → Reached g s → (i w : ℕ) → i < g.sets → w < g.ways
    → ((f : ℕ) → f < 16 → bit (policies g.ways s.domains f).hit w ≡ false) → bit (row_at g.ways i s.tables).valid w ≡ false
no_line_of_nobody g limits s r i w h k none = reached_empty g limits s r w i k h none

-- Of a change that takes no way from a neighbour number 7 looks at all that it drops; and lines in some ways are counted by the valid maps alone.
all_drops : (g : Geometry) (d arg n : ℕ) (s : State) → shares_way (policies g.ways s.domains) d (new_maps arg) ≡ false
    → dropped_by g d arg s ≡ n → drops_of g d arg s ≡ n
all_drops g d arg n s apart is = drops_all g d arg s apart ∙ is

lines_by_maps : (g : Geometry) (t : Tables) (map : Bits) (n : ℕ) → Shaped g t → ((w : ℕ) → g.ways ≤ w → map w ≡ false)
    → total g.ways g.sets (lines_in map) t ≡ n → lines_among map t.valid ≡ n
lines_by_maps g t map n shaped below is = among_total g t shaped map below ∙ is

-- ---- blocks

-- A call that returns another number than 0 leaves the block.
step_leaves : (block answer : List ℕ) (d kind arg n : ℕ) → Bytes block → (step_call block answer d kind arg).result ≡ suc n
    → (step_call block answer d kind arg).block ≡ block
step_leaves block answer d kind arg n bytes is = step_refused_leaves block answer d kind arg bytes (λ z. omega (arith, is, z))

fresh_leaves : (g : Geometry) (block : List ℕ) (n : ℕ) → (fresh_call g block).result ≡ suc n → (fresh_call g block).block ≡ block
fresh_leaves g block n is = fresh_refused_leaves g block (λ z. omega (arith, is, z))

-- Read and written again a block is itself, and so is its head.
block_read_written : (block : List ℕ) (n : ℕ) → Bytes block → block_refusal block n ≡ 0 → (g : Geometry) → geometry_of block ≡ g
    → block_of g (state_of g block) ≡ block
block_read_written block n bytes passed g is = subst (λ (h : Geometry). block_of h (state_of h block) ≡ block) is (passed_again block n bytes passed)

head_read_written : (block : List ℕ) (g : Geometry) → 8 ≤ length block → Bytes block → zeros_in block ≡ 0 → geometry_of block ≡ g → take 8 block ≡ head_of g
head_read_written block g long bytes zeros is = sym (head_again block long bytes zeros) ∙ ap head_of is

-- The block of a state: its length, the geometry that it names, its zero bytes, and the state.
record BlockSays (g : Geometry) (s : State) (block : List ℕ) : Type 0 where
  long : length block ≡ block_bytes g
  named : geometry_of block ≡ g
  zeros : zeros_in block ≡ 0
  state : state_of g block ≡ s

block_says : (g : Geometry) (s : State) (block : List ℕ) → Whole g s → StateFits s → g.rule < 256 → block ≡ block_of g s → BlockSays g s block
block_says g s block w fits rule is = subst (BlockSays g s) (sym is) (record {
  long = block_long g s w;
  named = geometry_again g s w rule;
  zeros = zeros_again g s w;
  state = state_again g s w fits;
})
