-- A worked case: the numbers that the rules give, and those that they have to give.
use Rattle.std.specs.Prelude.{List, [], ◌∷◌, ◌++◌, ℕ}

pub record Case : Type 0 where
  pub given : List ℕ
  pub printed : List ℕ

-- Several lists of cases as one.
abbrev pub joined : List (List Case) → List Case
joined [] = []
joined (cs ∷ rest) = cs ++ joined rest

-- Document 01's words, numbered from 0 in its order, and their fields.
abbrev pub hit : ℕ → List ℕ
hit way = 0 ∷ way ∷ []

abbrev pub fill : ℕ → List ℕ
fill way = 1 ∷ way ∷ []

abbrev pub evict : ℕ → ℕ → ℕ → List ℕ
evict way tag dirty = 2 ∷ way ∷ tag ∷ dirty ∷ []

abbrev pub pass : List ℕ
pass = 3 ∷ []

abbrev pub flush : ℕ → ℕ → List ℕ
flush way dirty = 4 ∷ way ∷ dirty ∷ []

abbrev pub absent : List ℕ
absent = 5 ∷ []

abbrev pub policy : ℕ → ℕ → List ℕ
policy dropped dirty = 6 ∷ dropped ∷ dirty ∷ []

abbrev pub refused : ℕ → List ℕ
refused number = 7 ∷ number ∷ []
