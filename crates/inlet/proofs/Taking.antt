-- A batch at an inlet that forgot its first stable tuples, and at the plain one.
use Rattle.std.proofs.Common.{Vec, Global, ◌≡◌, ℕ, true, false, not, ◌||◌, nat_lt, if◌then◌else◌, List, [], ◌∷◌, ◌++◌, map, length, Option, Some, None, refl, sym, ap, subst, ◌∙◌, arith, append_assoc, append-nil, length-append}
use Rattle.std.specs.Borrow.{Bor}
use Rattle.dpc_lists.specs.Lists.{is_nil}
use Rattle.dpc_model.specs.Reading.{Reader, Folded, fold_items}
use Rattle.dpc_model.specs.Inlets.{InletState, AfterBatch, is_old, take_batch, after_next_batch}
use Rattle.dpc_model.specs.PartStands.{InletValue, with_stable}
use Rattle.dpc_model.specs.declared.tuples.Tuple.{Tuple}
use Rattle.dpc_model.specs.declared.tuples.Item.{Item}
use Rattle.dpc_model.specs.declared.batches.Taken.TheVariants as taken_as
use Rattle.dpc_model.specs.declared.messages.Sess.{Sess}
use Rattle.held_tuples.specs.Runs.{stable_in}
use Rattle.inlet.specs.Forgotten.{Keeps, IsTaken}
use Rattle.std.proofs.lemmas.List.{length-map}
use Rattle.dpc_lists.proofs.Truths.{not-of}
use Rattle.inlet.proofs.Whole.{whole-taken, within-taken}
use Rattle.inlet.specs.Drafts.{Began, drafted, folded_of, IsFold, IsEmpty, committed}
use Rattle.inlet.specs.Batches.{left_by, IsRead}
use Rattle.inlet.specs.declared.draft.BatchDraft.{BatchDraft}
use Rattle.inlet.specs.declared.inlet.Batch.TheVariants as batch

-- the plain inlet of which exactly these tuples were forgotten
abbrev pub whole : List Tuple → InletValue → InletState
whole gone v = with_stable (gone ++ v.state.held.stable) v.state

pub whole-is : (gone : List Tuple) (v : InletValue) (x : InletState) → Keeps gone v x → x ≡ whole gone v
whole-is gone v x k = sym k.rest ∙ ap (λ (ts : List Tuple). with_stable ts v.state) k.kept

pub reads-old : (sess : Sess) (index : ℕ) (items : List Item) (v : InletValue) → is_old v.state sess index ≡ true → IsRead sess index items v batch.Old
unfolding take_batch
reads-old sess index items v old = record {
  left = λ gone x k. subst (λ (y : InletState). take_batch y sess index items ≡ left_by y batch.Old) (sym (whole-is gone v x k)) (rw old refl);
  within = tt;
  whole = tt;
}

pub reads-behind : (sess : Sess) (index : ℕ) (items : List Item) (v : InletValue) → is_old v.state sess index ≡ false → (v.state.broken || nat_lt v.state.next index) ≡ true →
    IsRead sess index items v batch.Broken
unfolding take_batch
reads-behind sess index items v old behind = record {
  left = λ gone x k. subst (λ (y : InletState). take_batch y sess index items ≡ left_by y batch.Broken) (sym (whole-is gone v x k)) (rw (old, behind) refl);
  within = tt;
  whole = tt;
}

-- the draft before the first item stands for the reader itself
drafted-empty : (gone : List Tuple) (v : InletValue) (d : BatchDraft) → IsEmpty v d → drafted (whole gone v).held d ≡ (whole gone v).held
drafted-empty gone v d h =
    rw (h.bound, h.passed, h.tentative, h.held, all-held v.state.held.tentative) refl
  where
    all-held : (ts : List Tuple) → (if not (is_nil ts) then ts else []) ++ [] ≡ ts
    all-held [] = refl
    all-held (t ∷ ts) = append-nil (t ∷ ts)

began-empty : (gone : List Tuple) (v : InletValue) (d : BatchDraft) → v.count ≡ length (gone ++ v.state.held.stable) → IsEmpty v d → Began (whole gone v).held d
began-empty gone v d count h = record { count = h.count ∙ count; held = λ e. not-of (is_nil v.state.held.tentative) (sym h.held ∙ e) }

folds-held : (gone : List Tuple) (v : InletValue) (items : List Item) (empty d : BatchDraft) (taken : Option (List Item)) → v.count ≡ length (gone ++ v.state.held.stable) → IsEmpty v empty →
    IsFold items empty d taken → fold_items (whole gone v).held items ≡ folded_of (whole gone v).held d taken
folds-held gone v items empty d taken count h f =
    ap (λ (r : Reader). fold_items r items) (sym (drafted-empty gone v empty h)) ∙ f.folded (whole gone v).held (began-empty gone v empty count h)

count-whole : (gone : List Tuple) (v : InletValue) (x : InletState) → Keeps gone v x → v.count ≡ length (gone ++ v.state.held.stable)
count-whole gone v x k = k.count ∙ ap (λ (ts : List Tuple). length ts) k.kept

reads-next : (sess : Sess) (index : ℕ) (items : List Item) (v : InletValue) (empty d : BatchDraft) (taken : Option (List Item)) → is_old v.state sess index ≡ false →
    (v.state.broken || nat_lt v.state.next index) ≡ false → IsEmpty v empty → IsFold items empty d taken →
    (gone : List Tuple) (x : InletState) → Keeps gone v x → take_batch x sess index items ≡ after_next_batch x (folded_of x.held d taken)
unfolding take_batch
reads-next sess index items v empty d taken old behind h f gone x k =
    subst (λ (y : InletState). take_batch y sess index items ≡ after_next_batch y (folded_of y.held d taken)) (sym (whole-is gone v x k))
    (rw (old, behind) (ap (λ (o : Option Folded). after_next_batch (whole gone v) o) (folds-held gone v items empty d taken (count-whole gone v x k) h f)))

pub reads-refused : (sess : Sess) (index : ℕ) (items : List Item) (v : InletValue) (empty d : BatchDraft) → is_old v.state sess index ≡ false →
    (v.state.broken || nat_lt v.state.next index) ≡ false → IsEmpty v empty → IsFold items empty d None → IsRead sess index items v batch.Broken
reads-refused sess index items v empty d old behind h f = record { left = reads-next sess index items v empty d None old behind h f; within = tt; whole = tt }

pub reads-taken : (sess : Sess) (index : ℕ) (items : List Item) (v : InletValue) (empty d : BatchDraft) (taken : Vec (Bor Item) Global) → is_old v.state sess index ≡ false →
    (v.state.broken || nat_lt v.state.next index) ≡ false → IsEmpty v empty → IsFold items empty d (Some (map (λ (b : Bor Item). b.now) taken.items)) →
    IsRead sess index items v (batch.Next d taken)
reads-taken sess index items v empty d taken old behind h f = record {
  left = reads-next sess index items v empty d (Some (map (λ (b : Bor Item). b.now) taken.items)) old behind h f;
  within =
      let few = within-taken items empty d (map (λ (b : Bor Item). b.now) taken.items) f in
      let same = length-map taken.items (λ (b : Bor Item). b.now) in omega (arith, few, same);
  whole = λ e. whole-taken items empty d (map (λ (b : Bor Item). b.now) taken.items) f (length-map taken.items (λ (b : Bor Item). b.now) ∙ e);
}

-- what the draft adds to the inlet it adds to the plain one
pub adds-both : (gone : List Tuple) (v : InletValue) (d : BatchDraft) (x : InletState) (taken : List Item) → Keeps gone v x →
    Keeps gone (committed v d taken) (after_next_batch x (folded_of x.held d (Some taken))).after
adds-both gone v d x taken k =
    subst (λ (y : InletState). Keeps gone (committed v d taken) (after_next_batch y (folded_of y.held d (Some taken))).after) (sym (whole-is gone v x k)) (record {
      count = let all = count-whole gone v x k in let more = length-append (gone ++ v.state.held.stable) (stable_in taken) in omega (arith, all, more);
      kept = append_assoc gone v.state.held.stable (stable_in taken);
      rest = refl;
    })

-- a batch that was read as the next one is taken once what it adds is held
pub takes-next : (sess : Sess) (index : ℕ) (items : List Item) (v new : InletValue) (d : BatchDraft) (taken : Vec (Bor Item) Global) → IsRead sess index items v (batch.Next d taken) →
    new ≡ committed v d (map (λ (b : Bor Item). b.now) taken.items) → IsTaken sess index items v new (taken_as.Used (map (λ (b : Bor Item). b.now) taken.items))
takes-next sess index items v new d taken h e = record {
  after = λ gone x k.
      subst (λ (a : AfterBatch). Keeps gone new a.after) (sym (h.left gone x k))
      (subst (λ (w : InletValue). Keeps gone w (left_by x (batch.Next d taken)).after) (sym e) (adds-both gone v d x (map (λ (b : Bor Item). b.now) taken.items) k));
  told = λ gone x k. ap (λ (a : AfterBatch). a.answer) (sym (h.left gone x k));
}
