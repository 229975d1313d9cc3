-- Texts that are under way to a sink.
use Rattle.std.proofs.Common.{◌≡◌, ℕ, ◌+◌, ◌≤◌, List, [], ◌++◌, length, take, refl, sym, ap, subst, ◌∙◌, arith, append_assoc, Option, Some, None, Result, IfErr}
use Rattle.std.proofs.Math.Seq.{take-append-add, take-length}
use Rattle.std.proofs.lemmas.List.{length-append, append-nil, take-append-le}
use Rattle.std.specs.Result.{IsErr, IsErrAnd}
use Rattle.std.proofs.lemmas.Result.{err_from_is_err_and}
use Rattle.std.specs.Io.KnownBytes.{Appends}
use Rattle.std.proofs.KnownBytes.{Appends-trans}
use Rattle.dpc_edge.specs.Faults.{Rises}
use Rattle.dpc_edge.specs.Edges.{Edge, Took, TookSome}
use Rattle.ideal_run.specs.Buckets.{IsUnderWay, Stopped}
use Rattle.ideal_run.specs.declared.faults.WriteFault.{WriteFault}
use Rattle.ideal_run.specs.declared.faults.WriteFault.TheVariants as fault

-- nothing was taken
Appends-none : (bytes : Option (List ℕ)) → Appends bytes bytes []
Appends-none None = tt
Appends-none (Some xs) = sym (append-nil xs)

pub way-none : (e : Edge) (text : List ℕ) → IsUnderWay e e text text
way-none e text = record { gone = []; took = record { bytes = Appends-none e.bytes; faults = refl }; split = refl }

-- what is held goes on
pub way-on : (a b c : Edge) (text held rest : List ℕ) → IsUnderWay a b text held → IsUnderWay b c held rest → IsUnderWay a c text rest
way-on a b c text held rest p q =
    record {
      gone = p.gone ++ q.gone;
      took = record { bytes = Appends-trans a.bytes b.bytes c.bytes p.gone q.gone p.took.bytes q.took.bytes; faults = q.took.faults ∙ p.took.faults };
      split = p.split ∙ ap (λ (xs : List ℕ). p.gone ++ xs) q.split ∙ sym (append_assoc p.gone q.gone rest);
    }

-- more is held
pub way-more : (a b : Edge) (text held more : List ℕ) → IsUnderWay a b text held → IsUnderWay a b (text ++ more) (held ++ more)
way-more a b text held more p = record { gone = p.gone; took = p.took; split = ap (λ (xs : List ℕ). xs ++ more) p.split ∙ append_assoc p.gone held more }

-- all of it was taken
pub way-whole : (a b c : Edge) (text held : List ℕ) → IsUnderWay a b text held → Took b c held → Took a c text
way-whole a b c text held p q =
    record {
      bytes = subst (λ (xs : List ℕ). Appends a.bytes c.bytes xs) (sym p.split) (Appends-trans a.bytes b.bytes c.bytes p.gone held p.took.bytes q.bytes);
      faults = q.faults ∙ p.took.faults;
    }

-- ---- a part

front : (n : ℕ) (xs ys : List ℕ) → n ≤ length xs → take n (xs ++ ys) ≡ take n xs
front n xs ys low = take-append-le n xs ys low

-- behind what was taken, the first bytes of the rest
past : (a b c : Edge) (gone rest : List ℕ) (n : ℕ) → Appends a.bytes b.bytes gone → Appends b.bytes c.bytes (take n rest) → Appends a.bytes c.bytes (take (length gone + n) (gone ++ rest))
past a b c gone rest n p q = subst (λ (xs : List ℕ). Appends a.bytes c.bytes xs) (sym (take-append-add gone rest n)) (Appends-trans a.bytes b.bytes c.bytes gone (take n rest) p q)

pub stop-behind : (why : WriteFault) (a b c : Edge) (gone rest : List ℕ) → Took a b gone → Stopped why b c rest → Stopped why a c (gone ++ rest)
stop-behind fault.NoMemory a b c gone rest p q =
    record {
      count = length gone + q.count;
      within = omega (arith, length-append gone rest, q.within);
      bytes = past a b c gone rest q.count p.bytes q.bytes;
      faults = q.faults ∙ p.faults;
    }
stop-behind fault.Failed a b c gone rest p q =
    record {
      count = length gone + q.count;
      proper = omega (arith, length-append gone rest, q.proper);
      bytes = past a b c gone rest q.count p.bytes q.bytes;
      faults = subst (λ (n : ℕ). Rises n c.faults) p.faults q.faults;
    }

-- what was to be written is longer
pub stop-longer : (why : WriteFault) (a b : Edge) (text more : List ℕ) → Stopped why a b text → Stopped why a b (text ++ more)
stop-longer fault.NoMemory a b text more p =
    record {
      count = p.count;
      within = omega (arith, length-append text more, p.within);
      bytes = subst (λ (xs : List ℕ). Appends a.bytes b.bytes xs) (sym (front p.count text more p.within)) p.bytes;
      faults = p.faults;
    }
stop-longer fault.Failed a b text more p =
    record {
      count = p.count;
      proper = omega (arith, length-append text more, p.proper);
      bytes = subst (λ (xs : List ℕ). Appends a.bytes b.bytes xs) (sym (front p.count text more (omega (arith, p.proper)))) p.bytes;
      faults = p.faults;
    }

-- nothing more is taken
pub stop-here : (a b : Edge) (text held : List ℕ) → IsUnderWay a b text held → TookSome a b text
stop-here a b text held p =
    record {
      count = length p.gone;
      within = let whole = ap length p.split ∙ length-append p.gone held in omega (arith, whole);
      bytes = subst (λ (xs : List ℕ). Appends a.bytes b.bytes xs) (sym (ap (λ (xs : List ℕ). take (length p.gone) xs) p.split ∙ whole-front p.gone held)) p.took.bytes;
      faults = p.took.faults;
    }
  where
    whole-front : (xs ys : List ℕ) → take (length xs) (xs ++ ys) ≡ xs
    whole-front xs ys = front (length xs) xs ys (omega arith) ∙ take-length xs

-- ---- the exit of a `?`

pub stop-at : {X : Type 0} (r : Result X WriteFault) (why : WriteFault) (a b : Edge) (text : List ℕ) → IsErr r × IsErrAnd r (λ e. e ≡ why) → Stopped why a b text →
    IfErr r (λ e. Stopped e a b text)
stop-at {X} r why a b text is h =
    let p = err_from_is_err_and r is.1 in
    subst (λ (q : Result X WriteFault). IfErr q (λ e. Stopped e a b text)) (sym p.1) (subst (λ (e : WriteFault). Stopped e a b text) (sym p.2) h)
