-- The laws of how inputs go on to stand for the plain ones.
use Rattle.std.proofs.Common.{◌≡◌, ap, ℕ, zero, suc, ◌*◌, ◌<◌, List, [], ◌∷◌, map, length, replicate, refl, arith, length-append}
use Rattle.std.proofs.lemmas.List.Elements.{All-head, All-tail}
use Rattle.std.specs.List.{All, AllZip}
use Rattle.dpc_model.specs.Inlets.{InletState, new_inlet, restarted_inlet, sess_of, with_next_session, after_tally, no_inlet}
use Rattle.dpc_model.specs.Parts.{frontier_of}
use Rattle.dpc_model.specs.PartStands.{InletValue, StandsForInlet}
use Rattle.dpc_model.specs.Reading.{stable_reader}
use Rattle.dpc_model.specs.declared.tuples.Tuple.{Tuple}
use Rattle.inlet.proofs.Standing.{new-stands, start_at-stands, reopen-stands, heard-stands, heard-tells, renumber-stands}
use Rattle.sunion.specs.Laws.{inlets_anew, StartStands, RestartingStands, ClosingStands, UndoingStands, SessionsStand, HearingTells}
use Rattle.sunion.specs.Ports.{at_opening, behind_snapshot, begun_anew}
use Rattle.sunion.specs.Unions.{bucket_in, no_value}
use Rattle.dpc_lists.specs.Lists.{nth}
use Rattle.sunion.proofs.Standing.{stands-at, stands-changed}

new-each : (b inc n : ℕ) → AllZip (StandsForInlet b) (replicate n (at_opening inc)) (replicate n (new_inlet inc))
new-each b inc zero = tt
new-each b inc (suc n) = (new-stands b inc, new-each b inc n)

restarted-each : (b inc : ℕ) (streams : List (List Tuple)) → All (λ (ts : List Tuple). All (λ (t : Tuple). t.stime < b) ts) streams →
    AllZip (StandsForInlet b) (map (behind_snapshot inc b) (map (λ (ts : List Tuple). length ts) streams)) (map (λ (ts : List Tuple). restarted_inlet (stable_reader ts b) (sess_of inc 0)) streams)
restarted-each b inc [] low = tt
restarted-each b inc (ts ∷ streams) low = (
  start_at-stands b b (sess_of inc 0) ts (All-head (λ (ts : List Tuple). All (λ (t : Tuple). t.stime < b) ts) ts streams low),
  restarted-each b inc streams (All-tail (λ (ts : List Tuple). All (λ (t : Tuple). t.stime < b) ts) ts streams low),
)

pub start-stands : StartStands
start-stands = (
  λ ports width end delay inc. record { inlets = new-each (0 * width) inc ports; stamps = λ k. refl; cursor = refl; closed = refl },
  λ width end delay inc cursor streams low. record { inlets = restarted-each (cursor * width) inc streams low; stamps = λ k. refl; cursor = refl; closed = refl },
)

-- the session of a plain inlet is that of the one that stands for it
anew-each : (b c : ℕ) (streams : List (List Tuple)) (vs : List InletValue) (xs : List InletState) → All (λ (ts : List Tuple). All (λ (t : Tuple). t.stime < c) ts) streams → AllZip (StandsForInlet b) vs xs →
    AllZip (StandsForInlet c) (begun_anew c (map (λ (ts : List Tuple). length ts) streams) vs) (inlets_anew c streams xs)
anew-each b c [] vs xs low h = tt
anew-each b c (ts ∷ streams) [] [] low h = tt
anew-each b c (ts ∷ streams) [] (x ∷ xs) low h = absurd h
anew-each b c (ts ∷ streams) (v ∷ vs) [] low h = absurd h
anew-each b c (ts ∷ streams) (v ∷ vs) (x ∷ xs) low h =
    let same : v.state.sess ≡ x.sess = ap (λ (i : InletState). i.sess) h.0.rest in (
      rw (← same) (start_at-stands c c v.state.sess ts (All-head (λ (ts : List Tuple). All (λ (t : Tuple). t.stime < c) ts) ts streams low)),
      anew-each b c streams vs xs (All-tail (λ (ts : List Tuple). All (λ (t : Tuple). t.stime < c) ts) ts streams low) h.1,
    )

pub restarting-stands : RestartingStands
restarting-stands v x cursor streams h low = record { inlets = anew-each (x.cursor * v.width) (cursor * v.width) streams v.union.inlets x.inlets low h.inlets; stamps = λ k. refl; cursor = refl; closed = refl }

pub closing-stands : ClosingStands
closing-stands v x h = record {
  inlets = h.inlets;
  stamps = h.stamps;
  cursor = h.cursor;
  closed = let more = length-append x.closed (bucket_in v.width x (frontier_of x) ∷ []) in let closed = h.closed in omega (arith, more, closed);
}

pub undoing-stands : UndoingStands
undoing-stands v x h = record { inlets = h.inlets; stamps = h.stamps; cursor = h.cursor; closed = refl }

pub sessions-stand : SessionsStand
sessions-stand v x port h =
    let b = x.cursor * v.width in (
      record {
        inlets = stands-changed b port (λ (i : InletValue). record i { state = with_next_session i.state }) with_next_session v.union.inlets x.inlets (λ i y s. reopen-stands b i y s) h.inlets;
        stamps = h.stamps;
        cursor = h.cursor;
        closed = h.closed;
      },
      λ tally. record {
        inlets =
            stands-changed b port (λ (i : InletValue). record i { state = after_tally i.state tally }) (λ (y : InletState). after_tally y tally) v.union.inlets x.inlets
            (λ i y s. heard-stands b i y tally s) h.inlets;
        stamps = h.stamps;
        cursor = h.cursor;
        closed = h.closed;
      },
      λ number. record {
        inlets =
            stands-changed b port (λ (i : InletValue). record i { state = record i.state { sess = sess_of i.state.sess.inc number } }) (λ (y : InletState). record y { sess = sess_of y.sess.inc number })
            v.union.inlets x.inlets (λ i y s. renumber-stands b i y number s) h.inlets;
        stamps = h.stamps;
        cursor = h.cursor;
        closed = h.closed;
      },
    )

pub hearing-tells : HearingTells
hearing-tells v x port tally low h =
    let b = x.cursor * v.width in heard-tells b (nth no_value v.union.inlets port) (nth no_inlet x.inlets port) tally (stands-at b port v.union.inlets x.inlets low h.inlets)
