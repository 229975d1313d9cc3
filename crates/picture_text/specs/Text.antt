-- The picture of a run as text, in lines of at most 100 columns.
use Rattle.std.specs.Prelude.{ℕ, ◌+◌, ◌-◌, ◌*◌, ◌/◌, Bool, false, List, [], ◌∷◌, ◌++◌, map, flat_map, length, take, drop, Some, None, slice_get, codes, decimal}
use Rattle.dpc_lists.specs.Lists.{nth, range_with_len, list_all}
use Rattle.dpc_model.specs.Words.{Word, line_of, text_of}
use Rattle.dpc_model.specs.ScriptText.{actor_name, client_name}
use Rattle.dpc_model.specs.declared.plans.SourceSpec.{SourceSpec}
use Rattle.dpc_model.specs.declared.plans.FragSpec.{FragSpec}
use Rattle.dpc_model.specs.declared.plans.ClientSpec.{ClientSpec}
use Rattle.dpc_model.specs.declared.plans.Plan.{Plan}
use Rattle.report.specs.Text.{settled_word, summary_words}
use Rattle.report.specs.declared.text.Summary.{Summary}
use Rattle.picture_model.specs.declared.columns.Column.{Column}
use Rattle.picture_model.specs.declared.columns.ClientPoint.{ClientPoint}
use Rattle.picture_model.specs.declared.columns.Mark.{Mark}
use Rattle.picture_model.specs.declared.columns.Mark.TheVariants.{Cut, Heal, Lose, Repeat, Crash, Restart, Grant}
use Rattle.picture_text.specs.Strips.{Strip, no_column, first_client, strips_of}

-- ---- the first line: how many phases there are, and whether every client is settled at the end

abbrev pub last_column : List Column → Column
last_column columns = nth no_column columns (length columns - 1)

abbrev pub are_settled : List ClientPoint → Bool
are_settled clients = list_all (λ (x : ClientPoint). x.settled) clients

-- nothing is settled where there is no phase
abbrev pub all_settled : List Column → Bool
all_settled columns = elim (slice_get columns (length columns - 1)) [ None ↦ false | Some c ↦ are_settled c.clients ]

abbrev pub title_words : List Column → List Word
title_words columns = codes "phases" ∷ decimal (length columns) ∷ settled_word (all_settled columns) ∷ []

-- ---- rows

-- a node is named by its fragment, a dot and its replica's number
abbrev pub replica_labels : FragSpec → List Word
replica_labels f = map (λ r. f.name ++ 46 ∷ decimal r) (range_with_len 0 f.replicas)

-- a client has two rows
abbrev pub client_labels : ClientSpec → List Word
client_labels c = c.name ∷ codes "  reads" ∷ []

-- the names of the rows: four for the numbers of phases
abbrev pub labels_of : Plan → List Word
labels_of plan =
    (codes "phase" ∷ [] ∷ [] ∷ [] ∷ []) ++ map (λ (s : SourceSpec). s.name) plan.sources ++ codes "cut links" ∷ []
    ++ flat_map replica_labels plan.frags
    ++ flat_map client_labels plan.clients

-- a name in 20 columns
abbrev pub padded : Word → List ℕ
padded w = map (λ i. nth 32 w i) (range_with_len 0 20)

-- a colon in each row stands for phases that are left out
abbrev pub letter_at : ℕ → Strip → ℕ
letter_at row strip = nth 58 strip row

abbrev pub row_text : List Word → List Strip → ℕ → List ℕ
row_text labels strips row = padded (nth [] labels row) ++ map (letter_at row) strips ++ 10 ∷ []

-- an empty line, and all rows
abbrev pub panel_text : List Word → List Strip → List ℕ
panel_text labels strips = 10 ∷ flat_map (row_text labels strips) (range_with_len 0 (length labels))

-- as many strips as have room beside the names
abbrev pub strips_in : List Strip → ℕ → List Strip
strips_in strips panel = take 80 (drop (80 * panel) strips)

abbrev pub panels_text : List Word → List Strip → List ℕ
panels_text labels strips = flat_map (λ k. panel_text labels (strips_in strips k)) (range_with_len 0 ((length strips + 79) / 80))

-- ---- what happened

abbrev pub pair_words : Plan → Word → ℕ → ℕ → List Word
pair_words plan word a b = word ∷ actor_name plan a ∷ actor_name plan b ∷ []

-- its words: as in a journal, or else in a script, where one of them has it
abbrev pub told_words : Plan → Mark → List Word
told_words plan (Cut a b) = pair_words plan (codes "cut") a b
told_words plan (Heal a b) = pair_words plan (codes "heal") a b
told_words plan (Lose a b) = pair_words plan (codes "lose") a b
told_words plan (Repeat a b) = pair_words plan (codes "repeat") a b
told_words plan (Crash a) = codes "crash" ∷ actor_name plan a ∷ []
told_words plan (Restart a i) = codes "restart" ∷ actor_name plan a ∷ decimal i ∷ []
told_words plan (Grant a b) = pair_words plan (codes "grant") a b

abbrev pub mark_words : Plan → Column → Mark → List Word
mark_words plan c m = codes "phase" ∷ decimal c.number ∷ codes "clock" ∷ decimal c.clock ∷ told_words plan m

abbrev pub mark_lines : Plan → Column → List (List Word)
mark_lines plan c = map (mark_words plan c) c.marks

-- ---- what each client has at the end

abbrev pub summary_at : ClientPoint → Summary
summary_at x = record { stable = x.stable; bound = x.bound; tentative = x.tentative; settled = x.settled }

abbrev pub summary_line : Plan → List ClientPoint → ℕ → List Word
summary_line plan clients c = summary_words (client_name plan c) (summary_at (nth first_client clients c))

abbrev pub summary_lines : Plan → List ClientPoint → List (List Word)
summary_lines plan clients = map (summary_line plan clients) (range_with_len 0 (length clients))

-- ---- what the letters mean

unfoldable pub legend_lines : List (List Word)
legend_lines =
    (codes "sources: r released, e emitted, - released to the end" ∷ [])
    ∷ (codes "links: how many are cut, # ten or more" ∷ [])
    ∷ (codes "replicas: . STABLE, U UP_FAILURE, C STABILIZATION, R recovering, x down" ∷ [])
    ∷ (codes "clients: + more is final, ~ tentative held, u undo, d rec_done, * both, = settled" ∷ [])
    ∷ (codes "reads: the number of the replica; a colon: phases like the three before it" ∷ []) ∷ []

-- ---- the whole

unfoldable pub picture_text : Plan → List Column → List ℕ
picture_text plan columns =
    line_of (title_words columns) ++ panels_text (labels_of plan) (strips_of plan.end columns) ++ 10 ∷ []
    ++ text_of (flat_map (mark_lines plan) columns) ++ text_of (summary_lines plan (last_column columns).clients) ++ text_of legend_lines
