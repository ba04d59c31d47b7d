-- A step and its code: each gives the other.
use mathlib.Core.Path.{◌≡◌, ap₂}
use Prim.Native.Nat.{ℕ, ◌+◌, ◌*◌, ◌/◌, ◌%◌}
use native.Mathlib.Omega.{arith}
use Rattle.command.specs.Command.{command_of, code_of}
use Rattle.command.specs.Statements.{CodeOfCommand, CommandOfCode, CommandInjective}

pub code_of_command : CodeOfCommand
unfolding code_of command_of
code_of_command code argument = omega arith

pub command_of_code : CommandOfCode
unfolding code_of command_of
command_of_code c h =
    let domain : (c.domain + 256 * c.kind) % 256 ≡ c.domain = omega arith in
    let kind : (c.domain + 256 * c.kind) / 256 ≡ c.kind = omega arith in
    ap₂ (λ (d k : ℕ). record { domain = d; kind = k; argument = c.argument }) domain kind

-- a contract that equates `command_is` settles the whole step
pub command_injective : CommandInjective
command_injective p q e = λ i. record { domain = (e i).domain; kind = (e i).kind; argument = (e i).argument }
