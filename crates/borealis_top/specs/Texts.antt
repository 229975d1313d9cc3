-- The texts and lines that the program writes beside reports.
use Rattle.std.specs.Prelude.{ℕ, List, [], ◌∷◌, ◌++◌, flat_map, codes}

-- lines as a text: behind each one a line feed
abbrev pub of_lines : List (List ℕ) → List ℕ
of_lines lines = flat_map (λ (line : List ℕ). line ++ 10 ∷ []) lines

-- what `--help` writes
abbrev pub help_text : List ℕ
help_text =
    of_lines
    (codes "borealis run < SCRIPT             runs a script, and writes what each client received"
    ∷ codes "borealis run short < SCRIPT       the summary lines alone"
    ∷ codes "borealis run json < SCRIPT        the same as JSON"
    ∷ codes "borealis run frames < SCRIPT      the same as frames of bytes"
    ∷ codes "borealis check < SCRIPT           tells whether a script is right, or its first faulty line and why"
    ∷ codes "borealis print < SCRIPT           writes a script in canonical form"
    ∷ codes "borealis ideal < SCRIPT           writes the failure-free stream of each client"
    ∷ codes "borealis replay < BOTH            runs the journal behind a script, and writes what each client received"
    ∷ codes "borealis replay frames < BOTH     the same of a journal in frames"
    ∷ codes "borealis audit < BOTH             compares the recorded stream behind a script with the failure-free one"
    ∷ codes "borealis audit frames < BOTH      the same of a stream in frames"
    ∷ codes "borealis upgrade < BOTH           writes a script, and the journal behind it if there is one, in the newest form"
    ∷ codes "borealis live N < SCRIPT          runs a script by N threads, 1 to 16, and writes the journal and what each client received"
    ∷ codes "borealis live N frames < SCRIPT   the same as frames"
    ∷ codes "borealis live N pool M < SCRIPT   the same as live N, with M threads more, 1 to 16, that process what the N put into a pool"
    ∷ codes "borealis live N watch R < SCRIPT  the same as live N, with R threads more, 1 to 8, that read what the clients take, and what they saw"
    ∷ codes "borealis pair X Y < SCRIPT        runs a script, and writes one stream made of what clients X and Y of one stream received"
    ∷ codes "borealis saves < SCRIPT           runs a script where each node saves its state at the end of each phase, and tells what each has saved"
    ∷ codes "borealis picture < SCRIPT         runs a script, and draws what happened, as SVG for a browser"
    ∷ codes "borealis picture text < SCRIPT    the same as text in at most 100 columns"
    ∷ codes "borealis picture replay < BOTH    runs the journal behind a script, and draws what happened, as SVG for a browser"
    ∷ codes "borealis picture replay text < BOTH  the same as text in at most 100 columns"
    ∷ codes "borealis gen N                    writes the generated script of a number, 1 to 1000"
    ∷ codes "borealis reasons                  writes the reasons to refuse a line, each with its number"
    ∷ codes "borealis --help                   writes these lines"
    ∷ codes "borealis --version                writes the version"
    ∷ codes "The script language, and the reasons: docs/SCRIPT.md"
    ∷ [])

-- what `--version` writes
abbrev pub version_text : List ℕ
version_text = codes "borealis 0.1" ++ 10 ∷ []

-- the line on words that are no command
abbrev pub unknown_words_line : List ℕ
unknown_words_line = codes "borealis: unknown words" ++ 10 ∷ []

-- what `check` writes of a right script
abbrev pub ok_text : List ℕ
ok_text = codes "ok" ++ 10 ∷ []
