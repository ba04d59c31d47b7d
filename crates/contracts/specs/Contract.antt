-- What a contract asks of the caller, and what it promises. The toolchain makes of each function's contract what a caller has to show, `Asked`, and what a
-- caller then learns, `Learnt`: of the lifetimes κs, the arguments a, the result r, and the parameters at exit e.

module _ {L : Type 0} {A R E : L → Type 0} where
  -- A contract that asks nothing, whatever the arguments, and settles what is said here, whatever arguments, result and parameters at exit are.
  pub record Held (asked : (κs : L) → A κs → Type 0) (learnt said : (κs : L) → A κs → R κs → E κs → Type 0) : Type 0 where
    pub asks_nothing : (κs : L) (a : A κs) → asked κs a
    pub settles : (κs : L) (a : A κs) (r : R κs) (e : E κs) → learnt κs a r e → said κs a r e

  -- A contract that settles what is said here, of a caller that shows what it asks.
  pub record Settled (learnt said : (κs : L) → A κs → R κs → E κs → Type 0) : Type 0 where
    pub told : (κs : L) (a : A κs) (r : R κs) (e : E κs) → learnt κs a r e → said κs a r e

-- A contract that asks no more of a caller than what is said here.
pub record AsksNoMore {L : Type 0} {A : L → Type 0} (asked said : (κs : L) → A κs → Type 0) : Type 0 where
  pub enough : (κs : L) (a : A κs) → said κs a → asked κs a
