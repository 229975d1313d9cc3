-- Whether a run leaves a client open behind `settle`.
use Rattle.std.proofs.Common.{◌≡◌, ◌⊎◌, inl, inr, Bool, true, false, refl}
use Rattle.std.specs.Prelude.{not, ◌&&◌}

pub open-so : (settle all : Bool) → settle ≡ true → all ≡ false → (settle && not all) ≡ true
open-so settle all on left = rw (on, left) refl

pub told-so : (settle all : Bool) → (settle ≡ false) ⊎ (all ≡ true) → (settle && not all) ≡ false
told-so settle all (inl off) = rw off refl
told-so true all (inr so) = rw so refl
told-so false all (inr so) = refl
