-- `block::dipperlock_fresh` meets its contract.
use Rattle.std.proofs.Common.{ℕ, sym, ap, ◌∙◌, refl, eq-eqb, ne_eqb}
use Rattle.command.proofs.RefusalLaws.{number_some}
use Rattle.command.specs.Refusal.{number_of}
use Rattle.block.specs.Block.{made_of, fresh_call}
use Rattle.block.proofs.HeadLaws.{blocked}
use Rattle.block.proofs.dipperlock_fresh.Goals as goal

pub fresh-requires : goal.fresh-requires
fresh-requires c = blocked _ _ (sym c.in-Ok.ensures)

pub returns-in-Ok : goal.returns-in-Ok
unfolding fresh_call
returns-in-Ok c = rw (← c.in-Ok.ensures) (ap (made_of 0) c.fresh.ensures)

pub returns-in-Err : goal.returns-in-Err
unfolding fresh_call
returns-in-Err c =
    let number = number_of c.in-Err.refusal in
    rw (← c.in-Err.ensures, ne_eqb number 0 (number_some c.in-Err.refusal)) (ap (λ (n : ℕ). made_of n c.args.block.now) c.number.ensures)
