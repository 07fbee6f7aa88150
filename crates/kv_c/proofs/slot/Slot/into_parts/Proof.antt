-- The two fields move, and what they own goes with them: a box's, since the slot is known to hold something.
use Rattle.kv_c.proofs.Boxed.{refl, [], ◌∷◌, List, ◌++◌, Val, id⊢, ftrue, fsep, fact, tables, WpFn, prop, ‵, raw, ◌⊛◌, ◌$◌, ◌∵◌, !, qed, done, move, drop, use1, split, join, fsplit, fjoin, rewrite, regoal, suffices, whole, sub, agg, enter, of_opd, stop, fld, no_more, and_then, returns, alloc_all, pass_all, free_all, look_at, get, get_in, sets, yes, heard, nothing, Stays, walk_of, says, stay_dropped, Goes-dropped, ends_at, proved_at, D, B, word, box_typed, box_out, box_in}
use Rattle.std.specs.Prelude.{is_some, IsTrue}
use Rattle.kv_c.proofs.AsBox.{E, FromSlot as From}
use Rattle.kv_c.proofs.Taken.{taken}
use Rattle.kv_c.specs.Owned.{Held}
use Rattle.kv_c.specs.contracts.slot.Slot.{the_row as Kept}
use Rattle.kv_c.specs.contracts.slot.Slot.into_parts as f
use Rattle.kv_c.proofs.slot.Slot.into_parts.Statement.{statement}
use Rattle.kv_c.proofs.slot.Slot.into_parts.Code as code
use denote.Signature.{type_at}

abbrev stayed : Stays f.ended.signature.params f.ended.kept
stayed = (stay_dropped From yes, tt)

pub into_parts_spec : {M : Type 1} → statement M
into_parts_spec 𝓤 𝓛 𝓜 𝓡 wired =
    let c = f.clauses 𝓛 𝓜.mem 𝓡.returns in let W = walk_of 𝓛 f.ended stayed c in let 𝓣 = tables 𝓤 𝓛.H 𝓜 𝓡 𝓡.env in
    let To = type_at f.signature.result tt in
    proved_at 𝓛 f.ended stayed c 𝓜 𝓡 (Goes-dropped 𝓛 0 From yes (λ κs x w. refl), tt)
    f.Key.name code.function (code.unfolded 𝓤 𝓛.H 𝓜 𝓡 wired) (λ y are.
    let slot = y.0.3.0 in
    qed 𝓛 ((‵ ftrue ⊛ ‵ (fsep (Kept.own_val slot y.0.4.0) ftrue)) ∷ raw (fact 𝓤 (IsTrue (is_some slot.held))) ∷ []) ∵
    move ! (1 ∷ []) $ heard ! _ (λ some.
    let held = taken slot.held some in
    let box : D E = record { ptr = slot.at; alloc = slot.alloc; value = held.0 } in
    let made : To.Denot = record { ptr = slot.at; alloc = slot.alloc; value = held.0 } in
    split ! $ drop ! $ fsplit ! $
    rewrite ! 0 (λ (h : Held). ‵ (Kept.own_val (record slot { held = h }) y.0.4.0)) held.1 refl $
    use1 𝓛 (‵ ((B E).own_val box y.0.4.0)) (id⊢ 𝓤 _) $
    box_out E ! box y.0.4.0 (λ b o hv is spelt fits.
    let w = word E hv b o in
    regoal ! (λ (us : List Val). prop (WpFn 𝓤 𝓛.H 𝓣.C 𝓣.Λ code.function (us ++ []) (W.post y))) spelt refl $
    box_in E ! box b o box.value is refl $ use1 𝓛 (‵ (To.own_val made (w ∷ []))) (id⊢ 𝓤 _) $ move ! (1 ∷ []) $ drop ! $
    enter ! _ _ _ _ _ $ alloc_all ! (λ l. pass_all ! refl (box_typed E hv b o fits, tt) $
    sets ! (of_opd ! (get_in ! (fld ! refl (stop !)) (sub ! 0 refl (whole !)))) refl (tt, tt) $
    sets ! (of_opd ! (get_in ! (fld ! refl (stop !)) (sub ! 1 refl (whole !)))) refl fits $
    -- the cast changes nothing
    sets ! (of_opd ! (get ! refl)) refl (tt, tt) $
    sets ! (agg ! (and_then ! (get ! refl) (and_then ! (get ! refl) (no_more !)))) refl (box_typed E hv b o fits) $
    returns ! (look_at ! 0 refl) $ free_all ! refl $
    suffices ! _ (ends_at 𝓛 f.ended stayed c y w made (tt, tt) (tt, tt)) $ says ! held.1 $
    nothing ! $ nothing ! $ fjoin ! $ join ! $ nothing ! $ join ! $ done !))))
