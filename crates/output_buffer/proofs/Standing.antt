-- A buffer goes on to stand for the whole stable output.
use Rattle.std.proofs.Common.{◌≡◌, ℕ, ◌-◌, ◌≤◌, List, ◌++◌, drop, length, sym, ap, ◌∙◌, arith, length-append}
use Rattle.std.proofs.lemmas.List.{length-drop, drop-drop, drop-append-le}
use Rattle.dpc_lists.specs.Lists.{changed}
use Rattle.dpc_model.specs.Sessions.{Acked, base_after, after_ack, stable_items}
use Rattle.dpc_model.specs.Parts.{Outputs}
use Rattle.dpc_model.specs.declared.tuples.Tuple.{Tuple}
use Rattle.dpc_model.proofs.Numbers.{base-within}
use Rattle.output_buffer.specs.Buffers.{BufferState, count_of, cut_to_base, StandsForBuffer}

-- it tells how many tuples there were
pub count-stands : (stable : List Tuple) (x : Outputs) (b : BufferState) → StandsForBuffer stable x b → count_of b ≡ length stable
count-stands stable x b h =
    let kept = ap (λ (ts : List Tuple). length ts) h.kept ∙ length-drop x.base stable in
    let base = h.base in
    let within = h.within in omega (arith, kept, base, within)

-- cut to its base it stands for the output with that base
pub cut-stands : (stable : List Tuple) (x : Outputs) (b : BufferState) → StandsForBuffer stable x b →
    StandsForBuffer stable (record x { base = base_after x.base x.acks (length stable) }) (cut_to_base b)
cut-stands stable x b h =
    let count = count-stands stable x b h in
    let base = base_after x.base x.acks (length stable) in
    let same : base_after b.base b.acks (count_of b) ≡ base =
    ap (λ (n : ℕ). base_after b.base b.acks n) count ∙ ap (λ (acks : List Acked). base_after b.base acks (length stable)) h.acks
    ∙ ap (λ (n : ℕ). base_after n x.acks (length stable)) h.base in
    let low : x.base ≤ base = omega arith in
    record {
      base = same;
      within = base-within x.base _ (length stable) h.within;
      kept =
          ap (λ (n : ℕ). drop (n - b.base) b.kept) same ∙ ap (λ (ts : List Tuple). drop (base - b.base) ts) h.kept ∙ drop-drop (base - b.base) x.base stable
          ∙ ap (λ (n : ℕ). drop n stable) (let from = h.base in omega (arith, low, from));
      acks = h.acks;
    }

-- more tuples
pub append-stands : (stable more : List Tuple) (x : Outputs) (b : BufferState) → StandsForBuffer stable x b →
    StandsForBuffer (stable ++ more) (record x { base = base_after x.base x.acks (length (stable ++ more)) }) (cut_to_base (record b { kept = b.kept ++ more }))
append-stands stable more x b h =
    let long = length-append stable more in
    let within = h.within in
    cut-stands (stable ++ more) x (record b { kept = b.kept ++ more })
    (record { base = h.base; within = omega (arith, long, within); kept = ap (λ (ts : List Tuple). ts ++ more) h.kept ∙ sym (drop-append-le x.base stable more within); acks = h.acks })

-- an acknowledgement
pub ack-stands : (stable : List Tuple) (k i n : ℕ) (x : Outputs) (b : BufferState) → StandsForBuffer stable x b →
    let y = record x { acks = changed k (after_ack i n) x.acks } in
    StandsForBuffer stable (record y { base = base_after y.base y.acks (length stable) }) (cut_to_base (record b { acks = changed k (after_ack i n) b.acks }))
ack-stands stable k i n x b h =
    cut-stands stable (record x { acks = changed k (after_ack i n) x.acks }) (record b { acks = changed k (after_ack i n) b.acks })
    (record { base = h.base; within = h.within; kept = h.kept; acks = ap (λ (acks : List Acked). changed k (after_ack i n) acks) h.acks })

-- the items that it gives are those of the whole output
pub items-stand : (stable : List Tuple) (n : ℕ) (x : Outputs) (b : BufferState) → StandsForBuffer stable x b → b.base ≤ n →
    stable_items n (drop (n - b.base) b.kept) ≡ stable_items n (drop n stable)
items-stand stable n x b h low =
    ap (λ (ts : List Tuple). stable_items n ts)
    (ap (λ (ts : List Tuple). drop (n - b.base) ts) h.kept ∙ drop-drop (n - b.base) x.base stable ∙ ap (λ (m : ℕ). drop m stable) (let from = h.base in omega (arith, low, from)))
