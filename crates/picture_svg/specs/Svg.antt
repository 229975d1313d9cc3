-- The picture of a run as SVG.
use Rattle.std.specs.Prelude.{ℕ, ◌+◌, ◌*◌, ◌/◌, ◌%◌, ◌==◌, max, if◌then◌else◌, List, [], ◌∷◌, ◌++◌, flat_map, length, take, drop, codes, decimal}
use Rattle.dpc_lists.specs.Lists.{nth, range_with_len}
use Rattle.dpc_model.specs.Words.{Word, spaced, text_of}
use Rattle.dpc_model.specs.ScriptText.{source_name, client_name}
use Rattle.dpc_model.specs.declared.plans.Plan.{Plan}
use Rattle.picture_model.specs.declared.columns.Column.{Column}
use Rattle.picture_text.specs.Text.{title_words, mark_lines, summary_lines, last_column, replica_labels}
use Rattle.picture_svg.specs.Shapes.{escaped, text_at, move_to, down_to}
use Rattle.picture_svg.specs.Marks.{kinds_in}
use Rattle.picture_svg.specs.Layout.{each_of, count_of, column_at, step_for, left_at, source_top, replica_top, client_top}
use Rattle.picture_svg.specs.Lanes.{source_lane, link_lane, replica_lane, client_lane}

-- how wide a phase is, and the places of those that are shown
abbrev pub step_of : List Column → ℕ
step_of columns = step_for (count_of columns)

abbrev pub places : List Column → List ℕ
places columns = range_with_len 0 (count_of columns)

-- the legend has room
abbrev pub width_of : List Column → ℕ
width_of columns = max 780 (left_at (step_of columns) (count_of columns) + 60)

abbrev pub node_labels : Plan → List Word
node_labels plan = flat_map replica_labels plan.frags

-- where the lanes end
abbrev pub legend_top : Plan → ℕ
legend_top plan = client_top (length plan.sources) (length (node_labels plan)) (length plan.clients)

-- ---- the head

unfoldable pub size_text : ℕ → ℕ → List ℕ
size_text width height =
    codes " width='" ++ decimal width ++ codes "' height='" ++ decimal height ++ codes "' viewBox='0 0 " ++ decimal width ++ 32 ∷ decimal height ++ codes "'"

abbrev pub line_text : Word → List ℕ
line_text line = line ++ 10 ∷ []

-- colours: for paper, and for the dark
unfoldable pub style_text : List ℕ
style_text =
    line_text (codes "<style>svg{background:#fff}text{fill:#222}path{fill:none;stroke-width:16}.b{fill:#bcd}.e,.t,.f{stroke-width:2}.e{stroke:#468}")
    ++ line_text (codes ".S{stroke:#9d9}.U{stroke:#fb4}.C{stroke:#d9d}.R{stroke:#9bf}.x{stroke:#ccc}.k{stroke:#bdb}.f{stroke:#262}.t{stroke:#e80;stroke-dasharray:3 2}.m{stroke:#d44;stroke-width:1}")
    ++ line_text (codes "@media(prefers-color-scheme:dark){svg{background:#181a1b}text{fill:#ddd}.b{fill:#245}.e{stroke:#9bc}.S{stroke:#263}.U{stroke:#840}.C{stroke:#636}")
    ++ line_text (codes ".R{stroke:#246}.x{stroke:#444}.k{stroke:#253}.f{stroke:#8d8}}</style>")

-- the title, and the same to look at
unfoldable pub title_text : Word → List ℕ
title_text title = codes "<title>" ++ title ++ codes "</title>" ++ 10 ∷ []

-- for who can't see it
unfoldable pub desc_text : List ℕ → List ℕ
desc_text told = codes "<desc>" ++ escaped told ++ codes "</desc>" ++ 10 ∷ []

unfoldable pub head_text : ℕ → ℕ → Word → List ℕ → List ℕ
head_text width height title told =
    codes "<svg xmlns='http://www.w3.org/2000/svg' role='img' font-family='sans-serif' font-size='12'" ++ size_text width height ++ 62 ∷ title_text title ++ desc_text told
    ++ style_text
    ++ text_at 10 20 title

-- what each client has at the end, and what happened, the first hundred lines
abbrev pub told_of : Plan → List Column → List ℕ
told_of plan columns = text_of (summary_lines plan (last_column columns).clients) ++ text_of (take 100 (flat_map (mark_lines plan) columns))

-- ---- numbers and clocks of phases, where there is room

-- so much room wants the longest of them, and some more
abbrev pub label_room : List Column → ℕ
label_room columns = 8 * length (decimal ((last_column columns).number + (last_column columns).clock)) + 12

abbrev pub every_of : List Column → ℕ
every_of columns = label_room columns / step_of columns + 1

abbrev pub tick_text : List Column → ℕ → List ℕ
tick_text columns j =
    if (j % every_of columns) == 0 then
    text_at (left_at (step_of columns) j) 44 (decimal (column_at columns j).number) ++ text_at (left_at (step_of columns) j) 62 (decimal (column_at columns j).clock)
    else []

abbrev pub axis_text : List Column → List ℕ
axis_text columns = text_at 10 44 (codes "phase") ++ text_at 10 62 (codes "clock") ++ text_at 10 84 (codes "events") ++ flat_map (tick_text columns) (places columns)

-- ---- what happened: a letter for each kind, and a line through all lanes, which tells the first eight in a place

-- the phases of which the one in the j-th place is the last
abbrev pub group_at : List Column → ℕ → List Column
group_at columns j = take (each_of columns) (drop (each_of columns * j) columns)

-- what happened in them, the first eight lines
abbrev pub told_at : Plan → List Column → ℕ → List ℕ
told_at plan columns j = text_of (take 8 (flat_map (mark_lines plan) (group_at columns j)))

unfoldable pub mark_line : ℕ → ℕ → List ℕ → List ℕ
mark_line x low told = codes "<path class='m' d='" ++ move_to x 74 ++ down_to low ++ codes "'><title>" ++ escaped told ++ codes "</title></path>" ++ 10 ∷ []

abbrev pub mark_text : ℕ → ℕ → List ℕ → List ℕ → List ℕ
mark_text x low kinds told = if length told == 0 then [] else text_at (x + 2) 84 kinds ++ mark_line x low told

abbrev pub mark_at : Plan → List Column → ℕ → List ℕ
mark_at plan columns j = mark_text (left_at (step_of columns) j) (legend_top plan) (kinds_in (group_at columns j)) (told_at plan columns j)

abbrev pub marks_text : Plan → List Column → List ℕ
marks_text plan columns = flat_map (mark_at plan columns) (places columns)

-- ---- all lanes

abbrev pub source_lane_at : Plan → List Column → ℕ → List ℕ
source_lane_at plan columns s = source_lane (step_of columns) plan.end columns (source_name plan s) (source_top s) s

abbrev pub source_lanes : Plan → List Column → List ℕ
source_lanes plan columns = flat_map (source_lane_at plan columns) (range_with_len 0 (length plan.sources))

-- replicas of these names, below so many sources
abbrev pub replica_lane_at : ℕ → List Word → List Column → ℕ → List ℕ
replica_lane_at sources labels columns r = replica_lane (step_of columns) columns (nth [] labels r) (replica_top sources r) r

abbrev pub replica_lanes : ℕ → List Word → List Column → List ℕ
replica_lanes sources labels columns = flat_map (replica_lane_at sources labels columns) (range_with_len 0 (length labels))

-- below so many replicas
abbrev pub client_lane_at : ℕ → Plan → List Column → ℕ → List ℕ
client_lane_at replicas plan columns c = client_lane (step_of columns) columns (client_name plan c) (client_top (length plan.sources) replicas c) c

abbrev pub client_lanes : ℕ → Plan → List Column → List ℕ
client_lanes replicas plan columns = flat_map (client_lane_at replicas plan columns) (range_with_len 0 (length plan.clients))

abbrev pub all_lanes : Plan → List Word → List Column → List ℕ
all_lanes plan labels columns =
    source_lanes plan columns ++ link_lane (step_of columns) columns (source_top (length plan.sources)) ++ replica_lanes (length plan.sources) labels columns
    ++ client_lanes (length labels) plan columns

-- ---- what it all means

unfoldable pub legend_text : ℕ → List ℕ
legend_text y =
    text_at 10 (y + 24) (codes "events: c cut, h heal, l lose, 2 repeat, x crash, r restart, g grant; the line below tells which")
    ++ text_at 10 (y + 42) (codes "sources: area, how far all is released; line, how far it is sent; the height is the whole time")
    ++ text_at 10 (y + 60) (codes "cut links: how many, # ten or more")
    ++ text_at 10 (y + 78) (codes "replicas: S STABLE, U UP_FAILURE, C STABILIZATION, R recovering, x down")
    ++ text_at 10 (y + 96) (codes "clients: solid, stable tuples, with their number at the end; dashed, with the tentative ones; u undo, d rec_done")
    ++ text_at 10 (y + 114) (codes "reads: the number of the replica that the client reads")

unfoldable pub picture_svg : Plan → List Column → List ℕ
picture_svg plan columns =
    head_text (width_of columns) (legend_top plan + 130) (spaced (title_words columns)) (told_of plan columns) ++ axis_text columns ++ all_lanes plan (node_labels plan) columns ++ marks_text plan columns ++ legend_text (legend_top plan) ++ codes "</svg>" ++ 10 ∷ []
