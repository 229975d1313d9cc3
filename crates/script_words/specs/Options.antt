-- What may be there or not.
use Rattle.std.specs.Prelude.{Bool, true, false, Option, Some, None}

-- one reading after another; there is none where one of them has none
infixl 10 ◌>>=◌
abbrev pub ◌>>=◌ : {A B : Type 0} → Option A → (A → Option B) → Option B
None >>= f = None
(Some x) >>= f = f x

-- a value where a test holds
abbrev pub given : {A : Type 0} → Bool → A → Option A
given true x = Some x
given false x = None
