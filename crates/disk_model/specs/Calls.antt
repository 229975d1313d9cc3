-- What the calls of a disk in memory make of what a crash may leave.
use Rattle.std.specs.Prelude.{◌≡◌, ℕ, suc, ◌<◌, ◌==◌, Bool, true, false, not, if◌then◌else◌, List, [], ◌∷◌, length, slice_index_or}
use Rattle.std.specs.List.{list_any}
use Rattle.disk_model.specs.Disk.{History, settled, loosened, after}
use Rattle.disk_model.specs.Paging.{image_of}
use Rattle.disk_model.specs.declared.call.Kind.{Kind}
use Rattle.disk_model.specs.declared.call.Kind.TheVariants.{Read, Write, Sync}
use Rattle.disk_model.specs.declared.call.Call.{Call}

-- what a crash may leave, one call later
abbrev pub one_more : History → Kind → Bool → History
one_more h (Read at count) done = after h.now h
one_more h (Write at count) done = after (loosened at count h.now) h
one_more h (Sync pages) true = after (settled (image_of pages.value.map)) h
one_more h (Sync pages) false = after h.now h

-- nothing was written yet
abbrev pub blank : History
blank = record { now = settled (λ _. 0); past = [] }

abbrev pub replayed : History → List Call → History
replayed h [] = h
replayed h (call ∷ calls) = replayed (one_more h call.kind call.done) calls

abbrev pub history_of : List Call → History
history_of calls = replayed blank calls

-- how many calls failed
abbrev pub faults_of : List Call → ℕ
faults_of [] = 0
faults_of (call ∷ calls) = if call.done then faults_of calls else suc (faults_of calls)

-- whether the call of this number is to fail
abbrev pub is_listed : List ℕ → ℕ → Bool
is_listed fails number = list_any (λ n. n == number) fails

-- The calls that failed are those whose numbers are listed.
abbrev pub AreMarked : List ℕ → List Call → Type 0
AreMarked fails calls = (k : ℕ) (call : Call) → k < length calls → (slice_index_or calls k call).done ≡ not (is_listed fails k)
