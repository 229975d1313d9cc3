-- Rows whose lines are under way to a sink.
use Rattle.std.proofs.Common.{◌≡◌, ℕ, ◌+◌, true, false, List, [], ◌∷◌, ◌++◌, length, refl, sym, ap, subst, ◌∙◌, arith, append_assoc, Option, Some, None, Result, Ok, Err, OnOk, OnErr, is_err, is_some, unwrap_or}
use Rattle.std.proofs.lemmas.List.{length-append, append-nil}
use Rattle.dpc_edge.specs.Edges.{Edge}
use Rattle.dpc_model.specs.Words.{line_of}
use Rattle.dpc_model.specs.Fragments.{ideal}
use Rattle.dpc_model.specs.declared.tuples.Tuple.{Tuple}
use Rattle.dpc_model.specs.declared.plans.ClientSpec.{ClientSpec}
use Rattle.dpc_model.specs.declared.plans.Plan.{Plan}
use Rattle.report.specs.Text.{total_words}
use Rattle.ops_join.specs.RowsOut.{TookFirst, Takes, TakesFirst}
use Rattle.ideal_run.specs.Buckets.{numbered, client_text, IsUnderWay, Stopped, LinesTook}
use Rattle.ideal_run.specs.declared.faults.WriteFault.{WriteFault}
use Rattle.ideal_run.specs.declared.faults.WriteFault.TheVariants as fault
use Rattle.ideal_run.proofs.Texts.{numbered-append, name_words, whole-text}
use Rattle.ideal_run.proofs.Ways.{way-none, way-on, way-more, stop-behind, stop-longer, stop-here}

module _ (begun : List ℕ) (first : ℕ) where
  -- one line more
  lines-more : (rows : List Tuple) (row : Tuple) (n : ℕ) → n ≡ first + length rows → (begun ++ numbered first rows) ++ numbered n (row ∷ []) ≡ begun ++ numbered first (rows ++ row ∷ [])
  lines-more rows row n count =
      append_assoc begun (numbered first rows) (numbered n (row ∷ []))
      ∙ ap (λ (xs : List ℕ). begun ++ xs) (ap (λ m. numbered first rows ++ numbered m (row ∷ [])) count ∙ sym (numbered-append first rows (row ∷ [])))

  stopped-more : (why : WriteFault) (a b : Edge) (rows : List Tuple) (row : Tuple) → Stopped why a b (begun ++ numbered first rows) → Stopped why a b (begun ++ numbered first (rows ++ row ∷ []))
  stopped-more why a b rows row h =
      subst (λ (xs : List ℕ). Stopped why a b xs) (lines-more rows row (first + length rows) refl) (stop-longer why a b (begun ++ numbered first rows) (numbered (first + length rows) (row ∷ [])) h)

  -- no more was wanted
  pub took-no_more : (f : Option WriteFault) → is_some f ≡ true → (a b : Edge) (rows : List Tuple) (row : Tuple) (held : List ℕ) (n : ℕ) →
      LinesTook f a b begun first rows held n → LinesTook f a b begun first (rows ++ row ∷ []) held n
  took-no_more None e a b rows row held n h = absurd (cc)
  took-no_more (Some why) e a b rows row held n h = stopped-more why a b rows row h

  pub took-one : (f : Option WriteFault) → is_some f ≡ false → (a b c : Edge) (rows : List Tuple) (row : Tuple) (held more : List ℕ) (n next : ℕ) → next ≡ n + 1 →
      IsUnderWay b c (held ++ numbered n (row ∷ [])) more → LinesTook f a b begun first rows held n → LinesTook f a c begun first (rows ++ row ∷ []) more next
  took-one (Some why) e a b c rows row held more n next up way h = absurd (cc)
  took-one None e a b c rows row held more n next up way h = (
    subst (λ (xs : List ℕ). IsUnderWay a c xs more) (lines-more rows row n h.1)
        (way-on a b c ((begun ++ numbered first rows) ++ numbered n (row ∷ [])) (held ++ numbered n (row ∷ [])) more (way-more a b (begun ++ numbered first rows) held (numbered n (row ∷ [])) h.0) way),
    omega (arith, up, h.1, length-append rows (row ∷ [])),
  )

  pub took-stop : (f : Option WriteFault) → is_some f ≡ false → (why : WriteFault) (a b c : Edge) (rows : List Tuple) (row : Tuple) (held : List ℕ) (n : ℕ) →
      Stopped why b c (held ++ numbered n (row ∷ [])) → LinesTook f a b begun first rows held n → Stopped why a c (begun ++ numbered first (rows ++ row ∷ []))
  took-stop (Some w) e why a b c rows row held n stop h = absurd (cc)
  took-stop None e why a b c rows row held n stop h =
      let way = way-more a b (begun ++ numbered first rows) held (numbered n (row ∷ [])) h.0 in
      subst (λ (xs : List ℕ). Stopped why a c xs) (sym way.split ∙ lines-more rows row n h.1) (stop-behind why a b c way.gone (held ++ numbered n (row ∷ [])) way.took stop)

  -- before the first row
  pub took-none : (a : Edge) → LinesTook None a a begun first [] begun first
  took-none a = (subst (λ (xs : List ℕ). IsUnderWay a a xs begun) (sym (append-nil begun)) (way-none a begun), omega arith)

-- a list that is a beginning of another
longer : (a b : Edge) (why : WriteFault) (begun : List ℕ) (first : ℕ) (gone rest rows : List Tuple) → rows ≡ gone ++ rest → Stopped why a b (begun ++ numbered first gone) → Stopped why a b (begun ++ numbered first rows)
longer a b why begun first gone rest rows split h =
    subst (λ (xs : List ℕ). Stopped why a b xs)
    (append_assoc begun (numbered first gone) (numbered (first + length gone) rest) ∙ ap (λ (xs : List ℕ). begun ++ xs) (sym (numbered-append first gone rest) ∙ ap (numbered first) (sym split)))
    (stop-longer why a b (begun ++ numbered first gone) (numbered (first + length gone) rest) h)

none-before : (n : ℕ) → 0 + n ≡ n
none-before n = omega arith

module _ (plan : Plan) (c : ClientSpec) (old : List ℕ) where
  abbrev rows : List Tuple
  rows = ideal plan c.input

  abbrev pub named : List ℕ
  named = old ++ line_of (name_words c)

  -- its text, part by part
  text-is : (named ++ numbered 0 rows) ++ line_of (total_words (length rows)) ≡ old ++ client_text plan c
  text-is =
      ap (λ (xs : List ℕ). xs ++ line_of (total_words (length rows))) (append_assoc old (line_of (name_words c)) (numbered 0 rows))
      ∙ append_assoc old (line_of (name_words c) ++ numbered 0 rows) (line_of (total_words (length rows)))
      ∙ ap (λ (xs : List ℕ). old ++ xs) (sym (whole-text c rows))

  pub stop-rows : (why : WriteFault) (a b : Edge) → Stopped why a b (named ++ numbered 0 rows) → Stopped why a b (old ++ client_text plan c)
  stop-rows why a b h = subst (λ (xs : List ℕ). Stopped why a b xs) text-is (stop-longer why a b (named ++ numbered 0 rows) (line_of (total_words (length rows))) h)

  -- where some first rows were taken, it stopped in the text
  pub stop-some : (f : Option WriteFault) (why : WriteFault) (a b : Edge) (gone rest : List Tuple) (held : List ℕ) (n : ℕ) → why ≡ unwrap_or f fault.NoMemory → rows ≡ gone ++ rest → LinesTook f a b named 0 gone held n →
      Stopped why a b (old ++ client_text plan c)
  stop-some None why a b gone rest held n is split h =
      rw is (stop-rows fault.NoMemory a b (longer a b fault.NoMemory named 0 gone rest rows split (stop-here a b (named ++ numbered 0 gone) held h.0)))
  stop-some (Some w) why a b gone rest held n is split h = rw is (stop-rows w a b (longer a b w named 0 gone rest rows split h))

  -- all rows were
  pub way-rows : (f : Option WriteFault) → f ≡ None → (a b : Edge) (held more : List ℕ) (n : ℕ) → more ≡ held ++ line_of (total_words n) → LinesTook f a b named 0 rows held n →
      IsUnderWay a b (old ++ client_text plan c) more
  way-rows (Some w) e a b held more n put h = absurd (cc)
  way-rows None e a b held more n put h =
      subst (λ (xs : List ℕ). IsUnderWay a b (old ++ client_text plan c) xs) (sym put)
      (subst (λ (xs : List ℕ). IsUnderWay a b xs (held ++ line_of (total_words n)))
      (ap (λ m. (named ++ numbered 0 rows) ++ line_of (total_words m)) (h.1 ∙ none-before (length rows)) ∙ text-is)
      (way-more a b (named ++ numbered 0 rows) held (line_of (total_words n)) h.0))

-- some first ones were taken, whatever the answer is
pub taken-some : {A B X E : Type 0} (r : Result X E) (s t : A → B → List Tuple → Type 0) (xs : List Tuple) (a : A) (b : B) → OnOk r (Takes s t xs) → OnErr r (TakesFirst s t xs) → s a b [] → TookFirst t a b [] xs
taken-some (Ok x) s t xs a b h g p = record { gone = xs; rest = []; split = sym (append-nil xs); took = h a b [] p }
taken-some (Err e) s t xs a b h g p = g a b [] p

-- all were, unless it ended
pub taken-all : {A B X E : Type 0} (r : Result X E) (s t : A → B → List Tuple → Type 0) (xs : List Tuple) (a : A) (b : B) → is_err r ≡ false → OnOk r (Takes s t xs) → s a b [] → t a b xs
taken-all (Ok x) s t xs a b e h p = h a b [] p
taken-all (Err x) s t xs a b e h p = absurd (cc)
