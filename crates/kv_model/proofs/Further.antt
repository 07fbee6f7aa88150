-- The watch theorem for a watch that was there before the calls.
use Rattle.std.proofs.Common.{◌≡◌, ℕ, ◌+◌, ◌≤◌, List, [], ◌++◌, Some, length, take, drop, refl, sym, ap, ◌∙◌, subst, arith, append_assoc, length-append}
use Rattle.std.proofs.Math.Seq.{drop-append_seam}
use Rattle.std.proofs.lemmas.List.{take-append-drop, take_all, length-take-le, get_or-append-add}
use Rattle.std.specs.List.Sorted.{IsStrictlyIncreasing}
use Rattle.std.proofs.lemmas.List.Elements.{filter_map-append}
use Rattle.kv_model.specs.Acceptance.{IsLawful}
use Rattle.kv_model.specs.Acts.{Act, IsPrefix}
use Rattle.kv_model.specs.Configuration.{Configuration}
use Rattle.kv_model.specs.Given.{Item, revision_of, item_revisions}
use Rattle.kv_model.proofs.GivenLaws.{given_rises}
use Rattle.kv_model.specs.declared.call.Call.{Call}
use Rattle.kv_model.specs.declared.call.Call.TheVariants as ask
use Rattle.kv_model.specs.Answers.{Empty}
use Rattle.kv_model.specs.Runs.{calls_of, run, items_in, transcript}
use Rattle.kv_model.specs.State.{State, Watch, watch_at, given_to, empty, answer_to}
use Rattle.kv_model.specs.further.Counts.{Told, TellsWatch, GoesOn}
use Rattle.kv_model.specs.Told.{Tells}
use Rattle.kv_model.proofs.Others.{leaves_run}
use Rattle.kv_model.proofs.Theorem.{increasing_left, empty_is, empty_at, ended_all, as_opened}
use Rattle.kv_model.proofs.Told.{nothing_yet, told_run}
use Rattle.kv_model.proofs.Transcripts.{calls_are}

-- the last numbers of a rising list rise
increasing_right : (xs ys : List ℕ) → IsStrictlyIncreasing (xs ++ ys) → IsStrictlyIncreasing ys
increasing_right xs ys h k l =
    let e : length xs + (k + 1) ≡ length xs + k + 1 = omega arith in
    let one = h (length xs + k) (omega (arith, length-append xs ys)) in
    rw (sym (get_or-append-add xs ys k 0), sym (get_or-append-add xs ys (k + 1) 0), e) one

-- a watch that was handed items before the calls
module _ (s : State) (i : ℕ) (w : Watch) (items : List Item) (here : watch_at i s.watches ≡ Some w) (told : Told s.config.history s.acts w items) where
  handed_is : w.handed ≡ length items
  handed_is = sym (ap length told.first ∙ length-take-le w.handed (given_to s.config.history s.acts w) told.within)

  -- what it is given by the acts behind some calls
  abbrev given_it : List Call → List Item
  given_it calls = given_to s.config.history (run s calls).acts w

  -- the watch behind some calls
  abbrev Now : List Call → Type 0
  Now calls = (v : Watch) × (watch_at i (run s calls).watches ≡ Some v) × (Told (run s calls).config.history (run s calls).acts v (items ++ items_in i s calls))
      × (given_to (run s calls).config.history (run s calls).acts v ≡ given_it calls) × (v.began ≡ w.began)

  now : (calls : List Call) → Now calls
  now calls =
      let left = leaves_run s i w calls here in
      let before : TellsWatch s i items = rw here told in
      let all : TellsWatch (run s calls) i (items ++ items_in i s calls) = told_run s i items calls before in (
        left.0,
        left.1,
        rw left.1 at all,
        as_opened s calls left.0 left.0 w.filters w.options (goes_on_here left.0) left.2.began left.2.filters left.2.options,
        left.2.began,
      )
    where
      goes_on_here : (v : Watch) → GoesOn v v
      goes_on_here v = record { began = refl; filters = refl; options = refl; handed = omega arith; stays_stopped = λ e. e; counts_no_more = λ e. refl }

  -- it counts the items
  counted : (calls : List Call) → (now calls).0.handed ≡ w.handed + length (items_in i s calls)
  counted calls =
      let n = now calls in
      sym (ap length n.2.first ∙ length-take-le n.0.handed (given_to (run s calls).config.history (run s calls).acts n.0) n.2.within)
      ∙ length-append items (items_in i s calls)
      ∙ ap (λ k. k + length (items_in i s calls)) (sym handed_is)

  -- all that it is given: the items before, those of the calls, and the rest
  parts : (calls : List Call) → items ++ (items_in i s calls ++ drop (now calls).0.handed (given_it calls)) ≡ given_it calls
  parts calls =
      let n = now calls in
      sym (append_assoc items (items_in i s calls) (drop n.0.handed (given_it calls)))
      ∙ ap (λ xs. xs ++ drop n.0.handed (given_it calls)) (n.2.first ∙ ap (take n.0.handed) n.3)
      ∙ take-append-drop n.0.handed (given_it calls)

  next_parts : (calls : List Call) → items_in i s calls ++ drop (now calls).0.handed (given_it calls) ≡ drop w.handed (given_it calls)
  next_parts calls =
      sym (drop-append_seam items (items_in i s calls ++ drop (now calls).0.handed (given_it calls)))
      ∙ ap (λ n. drop n (items ++ (items_in i s calls ++ drop (now calls).0.handed (given_it calls)))) (sym handed_is)
      ∙ ap (drop w.handed) (parts calls)

  -- all that was left, where a take finds none
  all_next : (calls : List Call) → answer_to (run s calls) (ask.Take i) ≡ Empty → items_in i s calls ≡ drop w.handed (given_it calls)
  all_next calls none =
      let n = now calls in
      let at = empty_is (run s calls) i none in
      let both : Some at.0 ≡ Some n.0 = sym at.1 ∙ n.1 in
      let same : at.0 ≡ n.0 = cc in
      let end : length (given_to (run s calls).config.history (run s calls).acts n.0) ≤ n.0.handed = subst (λ (v : Watch). length (given_to (run s calls).config.history (run s calls).acts v) ≤ v.handed) same at.2 in
      let all : items ++ items_in i s calls ≡ given_it calls = n.2.first ∙ take_all n.0.handed (given_to (run s calls).config.history (run s calls).acts n.0) end ∙ n.3 in
      sym (drop-append_seam items (items_in i s calls)) ∙ ap (λ k. drop k (items ++ items_in i s calls)) (sym handed_is) ∙ ap (drop w.handed) all

  rises : (calls : List Call) → IsLawful s.config (run s calls).acts → IsStrictlyIncreasing (item_revisions (items_in i s calls))
  rises calls lawful =
      let n = now calls in
      let rest = drop n.0.handed (given_it calls) in
      let first : IsPrefix w.began (run s calls).acts = subst (λ (acts : List Act). IsPrefix acts (run s calls).acts) n.4 n.2.prefix in
      let whole : IsStrictlyIncreasing (item_revisions (given_it calls)) = given_rises s.config s.config.history w.began (run s calls).acts w.filters w.options lawful first in
      let split : item_revisions (given_it calls) ≡ item_revisions items ++ (item_revisions (items_in i s calls) ++ item_revisions rest) =
      ap item_revisions (sym (parts calls))
      ∙ filter_map-append revision_of items (items_in i s calls ++ rest)
      ∙ ap (λ rs. item_revisions items ++ rs) (filter_map-append revision_of (items_in i s calls) rest) in
      increasing_left (item_revisions (items_in i s calls)) (item_revisions rest)
      (increasing_right (item_revisions items) (item_revisions (items_in i s calls) ++ item_revisions rest) (subst IsStrictlyIncreasing split whole))

  pub tells_further : (calls : List Call) → Tells s (transcript s calls) i w
  tells_further calls =
      let n = now calls in
      let are : calls ≡ calls_of (transcript s calls) = sym (calls_are s calls) in
      record {
        prefix = subst (λ (cs : List Call). IsPrefix (items_in i s calls) (drop w.handed (given_to s.config.history (run s cs).acts w))) are (drop n.0.handed (given_it calls), next_parts calls);
        all = λ earlier later split. (
            let at = empty_at s calls i earlier later split in
            at.1 ∙ all_next (calls_of earlier) at.0);
        counted = (n.0, ap (λ (cs : List Call). watch_at i (run s cs).watches) (sym are) ∙ n.1, counted calls);
        stopped = λ earlier later handed split. (
            let ended = ended_all s calls i n.0 n.1 earlier later handed split in
            (ended.0 ∙ counted calls, ended.1));
        once = λ lawful. rises calls (subst (λ (cs : List Call). IsLawful s.config (run s cs).acts) (sym are) lawful);
      }

pub tells_on : (config : Configuration) (before calls : List Call) (i : ℕ) (w : Watch) → watch_at i (run (empty config) before).watches ≡ Some w →
    Tells (run (empty config) before) (transcript (run (empty config) before) calls) i w
tells_on config before calls i w here =
    let s = run (empty config) before in
    let items = items_in i (empty config) before in
    let all : TellsWatch s i items = told_run (empty config) i [] before (nothing_yet config i) in
    tells_further s i w items here (rw here at all) calls
