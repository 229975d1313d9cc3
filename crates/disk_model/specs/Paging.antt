-- Bytes by pages: the page of a number holds the bytes from that many pages on.
use Rattle.std.specs.Prelude.{◌≡◌, ℕ, ◌+◌, ◌/◌, ◌%◌, ◌<◌, ◌≤◌, Option, Some, None, Vec, length, slice_index, IsSome}
use Rattle.std.specs.BTreeMap.{BTreeMap, get}
use Rattle.std.specs.Ordering.{nat_cmp}
use Rattle.std.specs.declared.alloc.Global.{Global}
use Rattle.disk_model.specs.Disk.{Image}

abbrev pub PageMap : Type 0
PageMap = BTreeMap ℕ (Vec ℕ Global)

-- the byte at a place of a page; a page that isn't there reads as zeros
abbrev pub byte_in : Option (Vec ℕ Global) → ℕ → ℕ
byte_in None k = 0
byte_in (Some page) k = slice_index page.items k

abbrev pub image_of : PageMap → Image
image_of map i = byte_in (get nat_cmp map (i / 4096)) (i % 4096)

-- each page is whole
abbrev pub ArePages : PageMap → Type 0
ArePages map = (q : ℕ) (page : Vec ℕ Global) → get nat_cmp map q ≡ Some page → length page.items ≡ 4096

abbrev pub HasPage : PageMap → ℕ → Type 0
HasPage map q = IsSome (get nat_cmp map q)

-- the pages of so many bytes from a place on are there
abbrev pub HasPages : PageMap → ℕ → ℕ → Type 0
HasPages map at count = (i : ℕ) → at ≤ i → i < at + count → HasPage map (i / 4096)
