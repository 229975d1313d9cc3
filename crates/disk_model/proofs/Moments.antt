-- How a run of disk calls goes on.
use Rattle.std.proofs.Common.{◌≡◌, inl, inr, List, [], ◌∷◌, ◌++◌, refl, sym, ◌∙◌, ap, subst, append_assoc}
use Rattle.std.specs.List.{AllByRecursion}
use Rattle.disk_model.specs.Disk.{Image, Moment, MayLeave, History, moments, GoesOn, LeavesOnly}

abbrev Leaves : (Image → Type 0) → Moment → Type 0
Leaves P m = (image : Image) → MayLeave m image → P image

pub started : (h : History) (P : Image → Type 0) → ((image : Image) → MayLeave h.now image → P image) → LeavesOnly h h P
started h P first = record { since = []; goes_on = refl; first = first; each = tt }

pub goes_on_to : (old mid new : History) (m : Moment) (P : Image → Type 0) → LeavesOnly old mid P → GoesOn mid m new → ((image : Image) → MayLeave m image → P image) → LeavesOnly old new P
goes_on_to old mid new m P so_far (inl same) here = subst (λ (h : History). LeavesOnly old h P) (sym same) so_far
goes_on_to old mid new m P so_far (inr more) here =
    subst (λ (h : History). LeavesOnly old h P) (sym more)
    (record { since = m ∷ so_far.since; goes_on = ap (λ (ms : List Moment). m ∷ ms) so_far.goes_on; first = so_far.first; each = (here, so_far.each) })

weaker_each : (P Q : Image → Type 0) → ((image : Image) → P image → Q image) → (ms : List Moment) → AllByRecursion (Leaves P) ms → AllByRecursion (Leaves Q) ms
weaker_each P Q f [] all = tt
weaker_each P Q f (m ∷ ms) all = (λ image may. f image (all.0 image may), weaker_each P Q f ms all.1)

pub weaker : (old new : History) (P Q : Image → Type 0) → ((image : Image) → P image → Q image) → LeavesOnly old new P → LeavesOnly old new Q
weaker old new P Q f run = record { since = run.since; goes_on = run.goes_on; first = λ image may. f image (run.first image may); each = weaker_each P Q f run.since run.each }

both_each : (P : Image → Type 0) (ms ns : List Moment) → AllByRecursion (Leaves P) ms → AllByRecursion (Leaves P) ns → AllByRecursion (Leaves P) (ms ++ ns)
both_each P [] ns first second = second
both_each P (m ∷ ms) ns first second = (first.0, both_each P ms ns first.1 second)

pub joined : (old mid new : History) (P : Image → Type 0) → LeavesOnly old mid P → LeavesOnly mid new P → LeavesOnly old new P
joined old mid new P front back =
    record {
      since = back.since ++ front.since;
      goes_on = back.goes_on ∙ ap (λ (ms : List Moment). back.since ++ ms) front.goes_on ∙ sym (append_assoc back.since front.since (moments old));
      first = front.first;
      each = both_each P back.since front.since back.each front.each;
    }

last_of : (P : Image → Type 0) (since past later : List Moment) (first now : Moment) → now ∷ later ≡ since ++ first ∷ past → Leaves P first → AllByRecursion (Leaves P) since → Leaves P now
last_of P [] past later first now same here all = let is : first ≡ now = cc same in subst (Leaves P) is here
last_of P (m ∷ since) past later first now same here all = let is : m ≡ now = cc same in subst (Leaves P) is all.0

-- what a crash may leave in the end
pub in_the_end : (old new : History) (P : Image → Type 0) → LeavesOnly old new P → (image : Image) → MayLeave new.now image → P image
in_the_end old new P run = last_of P run.since old.past new.past old.now new.now run.goes_on run.first run.each
