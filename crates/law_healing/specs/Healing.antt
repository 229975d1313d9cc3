-- Scripts behind whose directives all has healed.
use Rattle.std.specs.Prelude.{ℕ, Bool, true, false, not, ◌&&◌, ◌||◌, ◌==◌, List, fold, flat_map, length}
use Rattle.dpc_lists.specs.Lists.{list_all, list_any, range_with_len}
use Rattle.dpc_model.specs.declared.plans.Plan.{Plan}
use Rattle.dpc_model.specs.declared.scripts.Directive.{Directive}
use Rattle.dpc_model.specs.declared.scripts.Directive.TheVariants.{Release, Cut, Heal, Crash, Restart}
use Rattle.dpc_model.specs.declared.scripts.Phase.{Phase}
use Rattle.dpc_model.specs.declared.scripts.Script.{Script}
use Rattle.world_model.specs.Worlds.{same_pair}

-- whether a link is cut behind a directive
abbrev pub cut_behind : ℕ → ℕ → Bool → Directive → Bool
cut_behind a b was (Cut c d) = was || (c == a && d == b)
cut_behind a b was (Heal c d) = was && not (same_pair c d (a, b))
cut_behind a b was _ = was

-- whether a node is down behind a directive
abbrev pub down_behind : ℕ → Bool → Directive → Bool
down_behind a was (Crash b) = was || b == a
down_behind a was (Restart b) = was && not (b == a)
down_behind a was _ = was

-- whether a directive releases a source's whole log
abbrev pub releases_all : Plan → ℕ → Directive → Bool
releases_all plan s (Release u t) = u == s && t == plan.end
releases_all plan s _ = false

-- what a directive breaks is mended behind all of them
abbrev pub is_mended : List Directive → Directive → Bool
is_mended ds (Cut a b) = not (fold (cut_behind a b) false ds)
is_mended ds (Crash a) = not (fold (down_behind a) false ds)
is_mended ds _ = true

abbrev pub directives_of : Script → List Directive
directives_of script = flat_map (λ (p : Phase). p.directives) script.phases

-- behind the directives of a script every link and every node is up, and each source released its whole log
abbrev pub heals : Script → Bool
heals script =
    let ds = directives_of script in
    list_all (is_mended ds) ds && list_all (λ s. list_any (releases_all script.plan s) ds) (range_with_len 0 (length script.plan.sources))
