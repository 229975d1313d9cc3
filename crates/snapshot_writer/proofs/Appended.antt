-- What a buffer has behind several writes.
use Rattle.std.proofs.Common.{◌≡◌, ◌<◌, ◌-◌, ◌^◌, min, ℕ, ℤ, ◌+◌, List, [], ◌∷◌, ◌++◌, length, drop, get_or, add-one, refl, sym, ap, ◌∙◌, append_assoc}
use Rattle.std.specs.Prelude.{flat_map}
use Rattle.std.proofs.Math.Seq.{drop-cons}
use Rattle.byteorder.specs.Endian.{big_bytes}
use Rattle.ops_window.specs.Windows.{Cell as Kept}
use Rattle.ops_window.specs.Saving.{saved_of, all_saved}
use Rattle.fragment_mill.specs.declared.states.OperatorParts.TheVariants.{Aggregate}
use Rattle.snapshot_form.specs.Bytes.{cell_bytes, part_bytes}
use Rattle.snapshot_writer.proofs.Sizes.{cells-exact}

next : {T : Type 0} (xs : List T) (i : ℕ) (d : T) → i < length xs → drop i xs ≡ get_or xs i d ∷ drop (i + 1) xs
next xs i d within = rw (add-one, drop-cons xs i d) refl

-- a loop's next element is written
pub one-more : {T : Type 0} (f : T → List ℕ) (xs : List T) (i : ℕ) (d : T) (old now new : List ℕ) → i < length xs
    → now ++ flat_map f (drop i xs) ≡ old ++ flat_map f xs → new ≡ now ++ f (get_or xs i d) → new ++ flat_map f (drop (i + 1) xs) ≡ old ++ flat_map f xs
one-more {T} f xs i d old now new within before e =
    ap (λ (x : List ℕ). x ++ flat_map f (drop (i + 1) xs)) e
    ∙ append_assoc now (f (get_or xs i d)) (flat_map f (drop (i + 1) xs))
    ∙ ap (λ (ys : List T). now ++ flat_map f ys) (sym (next xs i d within))
    ∙ before

four : (old a b c d : List ℕ) → (((old ++ a) ++ b) ++ c) ++ d ≡ old ++ (((a ++ b) ++ c) ++ d)
four old a b c d = simp append_assoc

pub five-writes : (old a b c d e x1 x2 x3 x4 x5 : List ℕ) → x1 ≡ old ++ a → x2 ≡ x1 ++ b → x3 ≡ x2 ++ c → x4 ≡ x3 ++ d → x5 ≡ x4 ++ e
    → x5 ≡ (old ++ (((a ++ b) ++ c) ++ d)) ++ e
five-writes old a b c d e x1 x2 x3 x4 x5 e1 e2 e3 e4 e5 =
    e5 ∙ ap (λ (x : List ℕ). x ++ e)
    (e4 ∙ ap (λ (x : List ℕ). x ++ d) (e3 ∙ ap (λ (x : List ℕ). x ++ c) (e2 ∙ ap (λ (x : List ℕ). x ++ b) e1))
    ∙ four old a b c d)

-- the byte of the form, the count and the cells
pub cells-written : (old x0 x1 x2 : List ℕ) (n : ℕ) (cells : List Kept)
    → length (part_bytes (Aggregate (all_saved cells))) < 2 ^ 63 → n ≡ min (length cells) (2 ^ 64 - 1)
    → x0 ≡ old ++ 2 ∷ [] → x1 ≡ x0 ++ big_bytes 4 n → x2 ≡ x1 ++ flat_map cell_bytes (all_saved cells)
    → x2 ≡ old ++ part_bytes (Aggregate (all_saved cells))
cells-written old x0 x1 x2 n cells short many e0 e1 e2 =
    let bytes = flat_map cell_bytes (all_saved cells) in
    let exact = cells-exact cells n short many in
    e2 ∙ ap (λ (x : List ℕ). x ++ bytes) (e1 ∙ ap (λ (x : List ℕ). x ++ big_bytes 4 n) e0)
    ∙ append_assoc (old ++ 2 ∷ []) (big_bytes 4 n) bytes
    ∙ append_assoc old (2 ∷ []) (big_bytes 4 n ++ bytes)
    ∙ ap (λ (m : ℕ). old ++ (2 ∷ (big_bytes 4 m ++ bytes))) exact

pub three-writes : (old a b c x1 x2 x3 : List ℕ) → x1 ≡ old ++ a → x2 ≡ x1 ++ b → x3 ≡ x2 ++ c → x3 ≡ old ++ ((a ++ b) ++ c)
three-writes old a b c x1 x2 x3 e1 e2 e3 =
    e3 ∙ ap (λ (x : List ℕ). x ++ c) (e2 ∙ ap (λ (x : List ℕ). x ++ b) e1 ∙ append_assoc old a b) ∙ append_assoc old (a ++ b) c

-- a walk's next cell is written
pub one-cell-more : (all now new : List ℕ) (k : Kept) (ks ls : List Kept) (zs : List ℤ) → ls ≡ k ∷ ks → zs ≡ k.1
    → now ++ flat_map cell_bytes (all_saved ls) ≡ all → new ≡ now ++ cell_bytes (saved_of (k.0, zs)) → new ++ flat_map cell_bytes (all_saved ks) ≡ all
one-cell-more all now new k ks ls zs first totals before e =
    ap (λ (x : List ℕ). x ++ flat_map cell_bytes (all_saved ks)) (e ∙ ap (λ (ys : List ℤ). now ++ cell_bytes (saved_of (k.0, ys))) totals)
    ∙ append_assoc now (cell_bytes (saved_of k)) (flat_map cell_bytes (all_saved ks))
    ∙ ap (λ (cs : List Kept). now ++ flat_map cell_bytes (all_saved cs)) (sym first)
    ∙ before
