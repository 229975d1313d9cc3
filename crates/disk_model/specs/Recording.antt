-- What is put on record.
use Rattle.std.specs.Prelude.{◌≡◌}
use Rattle.disk_model.specs.declared.pages.Pages.{Pages}
use Rattle.disk_model.specs.declared.call.Kind.{Kind}
use Rattle.disk_model.specs.declared.call.Kind.TheVariants.{Read, Write, Sync}

-- A sync is on record with what can be read now.
abbrev pub IsOfNow : Kind → Pages → Type 0
IsOfNow (Read at count) pages = Unit {0}
IsOfNow (Write at count) pages = Unit {0}
IsOfNow (Sync seen) pages = seen.value ≡ pages
