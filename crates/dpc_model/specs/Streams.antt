-- Streams: tuples in order of time.
use Rattle.std.specs.Prelude.{ℕ, ◌≤◌, Bool, nat_lt, List, [], ◌∷◌, map, filter, length}
use Rattle.dpc_model.specs.declared.tuples.Tuple.{Tuple}

-- no element has a smaller number than this one
abbrev pub NoneBelow : {X : Type 0} → (X → ℕ) → ℕ → List X → Type 0
NoneBelow key n [] = Unit {0}
NoneBelow key n (x ∷ xs) = (n ≤ key x) × NoneBelow key n xs

-- the numbers of the elements do not fall along the list
abbrev pub IsOrdered : {X : Type 0} → (X → ℕ) → List X → Type 0
IsOrdered key [] = Unit {0}
IsOrdered key (x ∷ xs) = NoneBelow key (key x) xs × IsOrdered key xs

abbrev pub time_of : Tuple → ℕ
time_of t = t.stime

-- tuples in order of time, as every stream has them
abbrev pub InOrder : List Tuple → Type 0
InOrder ts = IsOrdered time_of ts

-- several streams, each in order of time
abbrev pub AllInOrder : List (List Tuple) → Type 0
AllInOrder [] = Unit {0}
AllInOrder (ts ∷ rest) = InOrder ts × AllInOrder rest

-- whether a tuple lies below a time
abbrev pub is_below : ℕ → Tuple → Bool
is_below b t = nat_lt t.stime b

-- the tuples below a time, in order
abbrev pub cut : List Tuple → ℕ → List Tuple
cut ts b = filter (is_below b) ts

-- each list cut at a time
abbrev pub cut_each : ℕ → List (List Tuple) → List (List Tuple)
cut_each b tss = map (λ ts. cut ts b) tss

-- how many tuples lie below a time
abbrev pub count_below : List Tuple → ℕ → ℕ
count_below ts b = length (cut ts b)
