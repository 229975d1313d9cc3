-- The client of a stream, and the items behind it.
use Rattle.std.proofs.Common.{◌≡◌, ℕ, List, [], ◌∷◌, Option, Some, sym, ap, subst, ◌∙◌}
use Rattle.std.specs.Prelude.{IsErrAnd, Result, Ok, Err, codes, Vec}
use Rattle.std.specs.declared.alloc.Global.{Global}
use Rattle.dpc_model.specs.declared.plans.Plan.{Plan}
use Rattle.dpc_model.specs.declared.tuples.Item.{Item}
use Rattle.script_rules.specs.Lines.{lines_of}
use Rattle.frame_lists.specs.Lists.{item_in, parts_of}
use Rattle.input_parts.specs.Openings.{first_line, behind_line}
use Rattle.recorded_streams.specs.Streams.{client_behind, items_of_lines, of_client, stream_of_lines, stream_of, framed_stream_of, IsItems, IsStream}
use Rattle.recorded_streams.specs.declared.faults.StreamFault.{StreamFault}
use Rattle.recorded_streams.specs.declared.faults.StreamFault.TheVariants.{NoMemory, NoItem}

abbrev Items : Type 0
Items = Result (List Item) ℕ

-- a fault behind the client's name is the whole one
pub of_fault : (told : Items) (c : ℕ) (r : Result (ℕ × Vec Item Global) StreamFault) (e : StreamFault) → IsErrAnd r (λ (z : StreamFault). z ≡ e) → IsItems told (Err e) → IsStream (of_client (Some c) told) r
of_fault told c (Ok x) e was h = absurd was
of_fault told c (Err NoMemory) e was h = tt
of_fault told c (Err (NoItem n)) e was h =
    let same : IsItems told (Err (NoItem n)) = subst (λ (z : StreamFault). IsItems told (Err z)) (sym was) h in
    ap (of_client (Some c)) same

module _ (plan : Plan) where
  pub by_lines : (text : List ℕ) (lines : List (List ℕ)) → lines_of text ≡ lines → stream_of plan text ≡ stream_of_lines plan lines
  unfolding stream_of
  by_lines text lines e = ap (stream_of_lines plan) e

  pub by_client : (text line : List ℕ) (lines : List (List ℕ)) (o : Option ℕ) → lines_of text ≡ line ∷ lines → o ≡ client_behind (codes "stream ") plan line →
      stream_of plan text ≡ of_client o (items_of_lines plan.passing [] lines)
  by_client text line lines o e is = by_lines text (line ∷ lines) e ∙ ap (λ o. of_client o (items_of_lines plan.passing [] lines)) (sym is)

  pub by_frames : (bytes line frames : List ℕ) (o : Option ℕ) → line ≡ first_line bytes → frames ≡ behind_line bytes → o ≡ client_behind (codes "frames ") plan line →
      framed_stream_of plan bytes ≡ of_client o (parts_of (item_in plan.passing) frames)
  unfolding framed_stream_of
  by_frames bytes line frames o l b is =
      ap (λ line. of_client (client_behind (codes "frames ") plan line) (parts_of (item_in plan.passing) (behind_line bytes))) (sym l)
      ∙ ap (λ o. of_client o (parts_of (item_in plan.passing) (behind_line bytes))) (sym is) ∙ ap (λ frames. of_client o (parts_of (item_in plan.passing) frames)) (sym b)
