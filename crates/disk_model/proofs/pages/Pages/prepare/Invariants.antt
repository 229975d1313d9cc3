use Rattle.std.proofs.Common.{◌≡◌, ◌≤◌, ◌<◌, ◌/◌, ℕ}
use Rattle.disk_model.specs.Paging.{HasPage, image_of}
use Rattle.disk_model.proofs.pages.Pages.prepare.Given as goal

abbrev pub invariant-loop-number : goal.invariant-loop-number
invariant-loop-number l = record {
  image : image_of l.self.map ≡ image_of l.fn.self.map;
  there : (q : ℕ) → l.at / 4096 ≤ q → q < l.number → HasPage l.self.map q;
}
