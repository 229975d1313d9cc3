-- Merges of readers that go on.
use Rattle.std.proofs.Common.{◌≡◌, ℕ, ◌≤◌, max, nat_le, true, false, cond, List, arith}
use Rattle.std.specs.List.{All}
use Rattle.std.proofs.lemmas.Bool.{leb-true}
use Rattle.std.proofs.lemmas.List.Elements.{All-weaker, filter_passes}
use Rattle.dpc_model.specs.Reading.{Reader}
use Rattle.dpc_model.specs.declared.tuples.Tuple.{Tuple}
use Rattle.back_channel.specs.Merging.{merge, longer, not_below, fresher, is_later, last_time, OneBegins}
use Rattle.back_channel.specs.Told.{Goes, IsLater}
use Rattle.back_channel.proofs.Beginnings.{begins-through, first-begins, second-begins, longer-begins}
use Rattle.back_channel.proofs.Foldings.{all-onward}

pub not_below-all : (b : ℕ) (ts : List Tuple) → All (λ (t : Tuple). b ≤ t.stime) (not_below b ts)
not_below-all b ts =
    All-weaker (λ (t : Tuple). nat_le b t.stime ≡ true) (λ (t : Tuple). b ≤ t.stime) (λ t e. leb-true b t.stime e) (not_below b ts) (filter_passes (λ (t : Tuple). nat_le b t.stime) ts)

fresher-all : (b : ℕ) (ts us : List Tuple) → All (λ (t : Tuple). b ≤ t.stime) ts → All (λ (t : Tuple). b ≤ t.stime) us → All (λ (t : Tuple). b ≤ t.stime) (fresher ts us)
fresher-all b ts us h k = elim (is_later (last_time us) (last_time ts)) as (λ c. All (λ (t : Tuple). b ≤ t.stime) (cond c us ts)) [ true ↦ k | false ↦ h ]

pub goes-on : (x y x' y' : Reader) → Goes x x' → Goes y y' → OneBegins x.stable y.stable → OneBegins x'.stable y'.stable → IsLater (merge x y) (merge x' y')
goes-on x y x' y' g k o o' =
    let first = all-onward x x' g.0 g.1 in
    let second = all-onward y y' k.0 k.1 in
    let top = longer x'.stable y'.stable in
    let x-begins = begins-through x.stable x'.stable top first.stable (first-begins x'.stable y'.stable o') in
    let y-begins = begins-through y.stable y'.stable top second.stable (second-begins x'.stable y'.stable o') in
    let b = max x'.bound y'.bound in
    record {
      stays = (longer-begins x.stable y.stable top x-begins y-begins).is;
      bound = let a = first.bound in let c = second.bound in omega (arith, a, c);
      tentative = fresher-all b (not_below b x'.tentative) (not_below b y'.tentative) (not_below-all b x'.tentative) (not_below-all b y'.tentative);
    }
