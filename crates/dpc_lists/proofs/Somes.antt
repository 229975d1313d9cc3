-- What is there is one, and is not missing.
use Rattle.std.proofs.Common.{◌≡◌, ap, Option, Some, ℕ, None}

pub some-same : {X : Type 0} (x y : X) → ◌≡◌ {A = Option X} (Some x) (Some y) → x ≡ y
some-same x y e = cc

pub some-pair : {X Y : Type 0} (x y : X) (u v : Y) → ◌≡◌ {A = Option (X × Y)} (Some (x, u)) (Some (y, v)) → (x ≡ y) × (u ≡ v)
some-pair {X = X} {Y = Y} x y u v e = let same : ◌≡◌ {A = X × Y} (x, u) (y, v) = cc in (ap (λ (z : X × Y). z.0) same, ap (λ (z : X × Y). z.1) same)

pub some-each : (k q p r : ℕ) → ◌≡◌ {A = Option (ℕ × ℕ)} (Some (k, q)) (Some (p, r)) → (k ≡ p) × (q ≡ r)
some-each k q p r e = let same : ◌≡◌ {A = ℕ × ℕ} (k, q) (p, r) = cc in (ap (λ (x : ℕ × ℕ). x.0) same, ap (λ (x : ℕ × ℕ). x.1) same)

pub none-some : {k : ℕ} → ◌≡◌ {A = Option ℕ} None (Some k) → ⊥
none-some e = cc
