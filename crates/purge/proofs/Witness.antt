-- The struck-out list, computed for domain 0.
use mathlib.Core.Path.{◌≡◌, refl}
use mathlib.Core.List.{List, [], ◌∷◌, ◌++◌}
use Prim.Native.Nat.{ℕ}
use Rattle.command.specs.Command.{Command}
use Rattle.purge.specs.Purge.{keeps, purge}

-- a step of a domain, whatever it asks for
abbrev does : ℕ → ℕ → Command
does d k = record { domain = d; kind = k; argument = 64 }

-- the fetch, the load, the store and the flush of a domain
abbrev uses : ℕ → List Command
uses d = does d 0 ∷ does d 1 ∷ does d 2 ∷ does d 3 ∷ []

-- a policy change, and three unknown kinds
abbrev others : ℕ → List Command
others d = does d 16 ∷ does d 4 ∷ does d 17 ∷ does d 255 ∷ []

-- The accesses and flushes of a neighbour, of domain 2 and of domain 16 all go; their other steps and the domain's own stay, in their order.
pub struck_out_lem : purge 0 (uses 1 ++ others 1 ++ uses 0 ++ uses 2 ++ uses 16 ++ others 16 ++ others 0) ≡ others 1 ++ uses 0 ++ others 16 ++ others 0
unfolding purge keeps
struck_out_lem = refl
