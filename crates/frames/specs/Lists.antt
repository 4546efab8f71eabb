use Rattle.std.specs.Prelude.{ℕ, Bool, false, cond, List, [], ◌∷◌, ◌++◌, length, take, drop, Some, None, Option, ◌==◌, nat_lt}

-- The first of a list, if it has one.
abbrev pub first_of : {X : Type 0} → List X → Option X
first_of [] = None
first_of (x ∷ xs) = Some x

-- A list without its first.
abbrev pub rest_of : {X : Type 0} → List X → List X
rest_of [] = []
rest_of (x ∷ xs) = xs

-- Whether a list has a first, and its number is n.
abbrev pub first_is : {X : Type 0} → (X → ℕ) → ℕ → List X → Bool
first_is f n [] = false
first_is f n (x ∷ xs) = f x == n

-- One more element is accepted exactly while fewer than the most wait,
abbrev pub accepts : {X : Type 0} → ℕ → List X → Bool
accepts most xs = nat_lt (length xs) most

-- and then it comes at the end. One that is declined changes nothing.
abbrev pub added : {X : Type 0} → ℕ → List X → X → List X
added most xs x = cond (accepts most xs) (xs ++ x ∷ []) xs

-- len elements of xs from head on, and on from the start past the last.
abbrev pub turned : {X : Type 0} → List X → ℕ → ℕ → List X
turned xs head len = take len (drop head xs ++ take head xs)
