-- A step on a block: what it gives, by what its tests find.
use Rattle.std.proofs.Common.{◌≡◌, ℕ, ◌<◌, ◌≤◌, true, List, length, take, sym, refl, ap, ◌∙◌, arith, eq-eqb, ne_eqb}
use Rattle.endian.specs.Bytes.{cut}
use Rattle.endian.proofs.FieldLaws.{field_front}
use Rattle.runs.specs.Runs.{Bytes}
use Rattle.command.specs.Answer.{answer_of}
use Rattle.command.specs.Kind.{kind_of, kind_is}
use Rattle.command.specs.declared.Answer.{Answer}
use Rattle.command.specs.declared.Answer.TheVariants.{Refused}
use Rattle.command.specs.declared.Asked.{Asked}
use Rattle.command.specs.declared.Asked.TheVariants as AskedIs
use Rattle.command.specs.declared.LineUse.{LineUse}
use Rattle.geometry.specs.Geometry.{within, sized, sizes_of}
use Rattle.geometry.specs.Named.{geometry_of}
use Rattle.geometry.specs.declared.Geometry.{Geometry}
use Rattle.domains.specs.Domains.{domain_of, policies}
use Rattle.domains.specs.Calls.{policies_of}
use Rattle.verdict.proofs.RefusalLaws.{by_domain_lem}
use Rattle.steps.specs.Tables.{Tables, lengths}
use Rattle.steps.specs.Step.{State, Outcome, answers, drops_of, step}
use Rattle.steps.specs.Inside.{Shaped}
use Rattle.steps.specs.Deed.{Deed, line_deed, policy_deed, put_deed}
use Rattle.steps.proofs.StepLaws.{step_refused, step_line, step_policy, step_unknown}
use Rattle.block.specs.Layout.{sizes, block_bytes, state_of, head_of, state_bytes, block_of}
use Rattle.block.specs.Block.{length_refusal, block_refusal, turn_of, step_turn, state_after}
use Rattle.block.specs.Inside.{Blocked, contents_in, contents, Did, did_of, deed_did}
use Rattle.block.proofs.SetLaws.{tables_in, tables_shaped}
use Rattle.block.proofs.DomainLaws.{domains_in}
use Rattle.block.proofs.HeadLaws.{length_passed, blocked, Passed, passed}
use Rattle.block.proofs.LayoutLaws.{block_again, head_again}

-- tables of their lengths under a geometry within the limits
sizes_none : (g : Geometry) (t : Tables) → within g ≡ true → Shaped g t → 0 ≡ sizes_of g (lengths t)
unfolding sizes_of sized
sizes_none g t w h = rw (w, eq-eqb _ _ h.tags_long, eq-eqb _ _ h.valid_long, eq-eqb _ _ h.dirty_long, eq-eqb _ _ h.words_long)

-- equal heads name equal geometries
head_names : (g : Geometry) (block after : List ℕ) → (contents g after).head ≡ (contents g block).head → geometry_of after ≡ geometry_of block
unfolding contents contents_in cut sizes
head_names g block after e =
    sym (front after) ∙ ap geometry_of e ∙ front block
  where
    front : (b : List ℕ) → geometry_of (take 8 b) ≡ geometry_of b
    front b = λ i. record {
      sets = field_front 0 2 8 b (omega arith) i;
      ways = field_front 2 1 8 b (omega arith) i;
      rule = field_front 3 1 8 b (omega arith) i;
    }

-- What a step on a block is to give: its answer and the block after it, and the block read.
abbrev pub Turned : List ℕ → ℕ → ℕ → ℕ → ℕ → Answer → List ℕ → Type 0
Turned block a d kind arg r after =
    (turn_of (answer_of r) after ≡ step_turn block a d kind arg) × (state_of (geometry_of after) after ≡ state_after block a d kind arg)

module _ (block : List ℕ) (a d kind arg : ℕ) {g : Geometry} (is : g ≡ geometry_of block) where
  -- ---- turned down by 12 or 1

  pub turn_refused : {n : ℕ} → n ≡ block_refusal block a → (n ≡ 0 → ⊥) → Turned block a d kind arg (Refused n) block
  unfolding step_turn state_after
  turn_refused {n} e z = (rw (← e, ne_eqb n 0 z), rw (← e, ne_eqb n 0 z))

  -- ---- let pass

  module _ {n : ℕ} (e : n ≡ block_refusal block a) (z : n ≡ 0) (bytes : Bytes block) where
    let_pass : Passed block
    let_pass = passed block a (sym e ∙ z)

    limits : (within g ≡ true) × (length block ≡ block_bytes g)
    limits = length_passed g (length block) (ap (λ (h : Geometry). length_refusal h (length block)) is ∙ let_pass.length_is)

    pub turn_blocked : Blocked g block
    turn_blocked = blocked g block (ap (λ (h : Geometry). length_refusal h (length block)) is ∙ let_pass.length_is)

    abbrev held : State
    held = record { tables = tables_in g block; domains = domains_in g block }

    no_size : 0 ≡ sizes_of g (lengths (tables_in g block))
    no_size = sizes_none g (tables_in g block) limits.0 (tables_shaped g block turn_blocked)

    head_is : head_of g ≡ (contents g block).head
    unfolding contents contents_in cut sizes
    head_is =
        ap head_of is ∙ head_again block (omega (arith, turn_blocked.long)) bytes let_pass.zeros_are

    -- a block that holds what the step on the tables gives
    done : (r : Answer) (after : List ℕ) → length after ≡ length block → Bytes after → (contents g after).head ≡ (contents g block).head
        → answers r (contents g after).state ≡ step g d kind arg held → Turned block a d kind arg r after
    unfolding step_turn state_after state_of contents contents_in block_of
    done r after long b head o =
        let again : block_of g (contents g after).state ≡ after =
        ap (λ (xs : List ℕ). state_bytes xs (contents g after).state) (head_is ∙ sym head)
        ∙ block_again g after (record { limited = turn_blocked.limited; long = long ∙ turn_blocked.long }) b in
        let named : geometry_of after ≡ g = head_names g block after head ∙ sym is in (
          ap (turn_of (answer_of r)) (sym again)
              ∙ ap (λ (x : Outcome). turn_of x.answer (block_of g x.state)) o
              ∙ rw (← e, eq-eqb n 0 z, ← is),
          ap (λ (h : Geometry). state_of h after) named ∙ ap (λ (x : Outcome). x.state) o ∙ rw (← e, eq-eqb n 0 z, ← is),
        )

    turned_down : (m : ℕ) → answers (Refused m) held ≡ step g d kind arg held → Turned block a d kind arg (Refused m) block
    turned_down m o = done (Refused m) block refl bytes refl o

    pub turn_domain : 16 ≤ d → Turned block a d kind arg (Refused 3) block
    turn_domain h =
        turned_down 3
        (step_refused g d kind arg (tables_in g block) (domains_in g block)
        (by_domain_lem g (lengths (tables_in g block)) (policies g.ways (domains_in g block)) (domain_of (domains_in g block) d).counts
        (drops_of g d arg held) d kind arg no_size refl h)
        (λ q. omega arith))

    module _ (l : d < 16) (q : Asked) (k : kind_is q ≡ kind_of kind) where
      pub turn_unknown : q ≡ AskedIs.Unknown → Turned block a d kind arg (Refused 4) block
      turn_unknown t = turned_down 4 (step_unknown g d kind arg (tables_in g block) (domains_in g block) q k no_size refl l t)

      module _ {r : Answer} (after : List ℕ) (long : length after ≡ length block) (b : Bytes after) where
        -- the deed of the domain, put back
        deed_done : (deed : Deed) → did_of r (contents g after) ≡ deed_did d deed (contents g block)
            → put_deed d deed (domains_in g block) ≡ step g d kind arg held → Turned block a d kind arg r after
        unfolding put_deed
        deed_done deed f o =
            done r after long b (ap (λ (x : Did). x.left.head) f) (ap (λ (x : Did). answers x.answer x.left.state) f ∙ o)

        pub turn_line : (y : LineUse) → q ≡ AskedIs.Line y
            → did_of r (contents g after) ≡ deed_did d (line_deed g (domain_of (domains_in g block) d) y arg (tables_in g block)) (contents g block)
            → Turned block a d kind arg r after
        turn_line y t f =
            deed_done _ f
            (step_line g d kind arg (tables_in g block) (domains_in g block) (tables_shaped g block turn_blocked) q k no_size refl l y t refl)

        pub turn_policy : q ≡ AskedIs.Policy
            → did_of r (contents g after)
            ≡ deed_did d (policy_deed g (domain_of (domains_in g block) d) (policies_of (domains_in g block)) d arg (tables_in g block)) (contents g block)
            → Turned block a d kind arg r after
        turn_policy t f =
            deed_done _ f
            (step_policy g d kind arg (tables_in g block) (domains_in g block) (tables_shaped g block turn_blocked) q k no_size refl l t refl refl)
