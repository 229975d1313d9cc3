-- The first batch of a session, put together from its parts.
use Rattle.std.proofs.Common.{◌≡◌, ℕ, ◌+◌, ◌-◌, ◌≤◌, Bool, ◌&&◌, ◌==◌, List, ◌++◌, drop, length, sym, ap, ◌∙◌, arith, length-append, Option, Some, None}
use Rattle.std.specs.Prelude.{if◌then◌else◌}
use Rattle.std.proofs.Math.Seq.{drop-append-add}
use Rattle.dpc_model.specs.Parts.{shown_of}
use Rattle.dpc_model.specs.PartStands.{OutputValue}
use Rattle.dpc_model.specs.Sessions.{stable_items, tentative_items, boundary_item, passed_item, item_if, first_batch}
use Rattle.dpc_model.specs.declared.tuples.Tuple.{Tuple}
use Rattle.dpc_model.specs.declared.tuples.Item.TheVariants.{Undo, RecDone}
use Rattle.dpc_model.specs.declared.messages.Subscribe.{Subscribe}
use Rattle.soutput.specs.Giving.{stream_behind}

-- the stable tuples from n on lie behind those that are gone
drop-behind : {X : Type 0} (n : ℕ) (gone kept : List X) → length gone ≤ n → drop n (gone ++ kept) ≡ drop (n - length gone) kept
drop-behind n gone kept low = let all : length gone + (n - length gone) ≡ n = omega (arith, low) in rw all at (drop-append-add gone kept (n - length gone))

-- the boundary of an output
abbrev pub boundary_of : OutputValue → Option (ℕ × ℕ)
boundary_of v = if v.bound == 0 then None else Some (v.bound, v.count)

pub first_batch-is : (gone : List Tuple) (v : OutputValue) (stable_now : Bool) (asked : Subscribe) → length gone ≡ v.base → v.base ≤ asked.n → v.count ≡ v.base + length v.kept →
    item_if asked.tentative (Undo asked.n) ++ stable_items asked.n (drop (asked.n - v.base) v.kept) ++ boundary_item (boundary_of v) ++ tentative_items v.tentative ++ passed_item v.passed ++ item_if (asked.tentative && stable_now) RecDone
    ≡ first_batch (shown_of (stream_behind gone v) v.base stable_now) asked
first_batch-is gone v stable_now asked base low counted =
    let long = length-append gone v.kept in
    let count : v.count ≡ length (gone ++ v.kept) = omega (arith, long, base, counted) in
    let from : drop (asked.n - v.base) v.kept ≡ drop asked.n (gone ++ v.kept) =
    ap (λ (b : ℕ). drop (asked.n - b) v.kept) (sym base) ∙ sym (drop-behind asked.n gone v.kept (omega (arith, base, low))) in
    ap (λ (ts : List Tuple). item_if asked.tentative (Undo asked.n) ++ stable_items asked.n ts ++ boundary_item (boundary_of v) ++ tentative_items v.tentative ++ passed_item v.passed ++ item_if (asked.tentative && stable_now) RecDone) from
    ∙ ap (λ (m : ℕ). item_if asked.tentative (Undo asked.n) ++ stable_items asked.n (drop asked.n (gone ++ v.kept)) ++ boundary_item (if v.bound == 0 then None else Some (v.bound, m)) ++ tentative_items v.tentative ++ passed_item v.passed ++ item_if (asked.tentative && stable_now) RecDone) count
