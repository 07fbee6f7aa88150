-- What is owed at the opening, and that a cursor is in place there.
use Rattle.std.proofs.Common.{◌≡◌, ℕ, suc, ◌+◌, ◌-◌, ◌≤◌, Bool, true, false, cond, not, List, [], ◌∷◌, ◌++◌, Some, None, unwrap_or, length, take, drop, filter, refl, sym, ap, ◌∙◌, arith, add-one, append-nil, append_assoc, length-append}
use Rattle.std.specs.List.{Contains, last_or, cons_option}
use Rattle.std.specs.Option.{option_map_or}
use Rattle.std.proofs.lemmas.List.{drop-append-le, take-append-le}
use Rattle.kv_keys.specs.Matching.{any_matches}
use Rattle.kv_model.specs.Acts.{Act, Write, IsPrefix, writes_of, is_put}
use Rattle.kv_model.specs.Retained.{revisions}
use Rattle.kv_store.specs.Standing.{StandsFor}
use Rattle.kv_store.specs.Stored.{Stored, write_at}
use Rattle.kv_model.proofs.Members.{Contains-here, Contains-there, Contains-from_filter}
use Rattle.kv_model.proofs.Numbered.{writes_of-append}
use Rattle.kv_model.specs.declared.options.Options.{Options}
use Rattle.kv_model.specs.declared.options.Start.{Start}
use Rattle.kv_watch.specs.Following.{Following, InPlace, marker_if, shown_behind, one_more, given_to, live_to}
use Rattle.kv_model.specs.Given.{AnEntry, entry_of, matching, all_shown, initial, ending, given, item_revisions}
use Rattle.kv_watch.specs.inside.Showing.{is_put_at}
use Rattle.kv_model.proofs.GivenLaws.{given-append, live-append, all_shown-matching-append, no_fewer_writes}
use Rattle.kv_store.proofs.Reading.{initial_stored}
use Rattle.kv_watch.proofs.Placing.{few_writes}
use Rattle.kv_watch.proofs.Walks.{counts, behind_counted}

-- ---- what is owed

-- of writes that are stored, the revisions that a look-up tells to be those of puts
puts_stored : (base : Stored) (ws : List Write) → ((w : Write) → Contains ws w → write_at w.revision base ≡ Some w) → filter (is_put_at base) (revisions ws) ≡ revisions (filter (λ w. is_put w.op) ws)
puts_stored base [] h = refl
puts_stored base (w ∷ ws) h =
    let here : is_put_at base w.revision ≡ is_put w.op = ap (λ o. option_map_or (λ v. is_put v.op) o false) (h w (Contains-here w ws)) in
    let rest = puts_stored base ws (λ v m. h v (Contains-there w ws v m)) in
    ap (λ b. cond b (w.revision ∷ filter (is_put_at base) (revisions ws)) (filter (is_put_at base) (revisions ws))) here
    ∙ by_put (is_put w.op) rest
  where
    by_put : (b : Bool) → filter (is_put_at base) (revisions ws) ≡ revisions (filter (λ v. is_put v.op) ws) → cond b (w.revision ∷ filter (is_put_at base) (revisions ws)) (filter (is_put_at base) (revisions ws)) ≡ revisions (cond b (w ∷ filter (λ v. is_put v.op) ws) (filter (λ v. is_put v.op) ws))
    by_put true rest = ap (λ rs. w.revision ∷ rs) rest
    by_put false rest = rest

-- so of the initial writes
pub puts_selected : (acts : List Act) (base : Stored) → StandsFor acts base → (filters : List (List ℕ)) (start : Start)
    → let ws = matching filters (initial base.config.history start acts) in
    filter (is_put_at base) (revisions ws) ≡ revisions (filter (λ w. is_put w.op) ws)
puts_selected acts base s filters start =
    puts_stored base (matching filters (initial base.config.history start acts)) (λ w m. initial_stored acts base start w s (Contains-from_filter (λ v. any_matches filters v.key) (initial base.config.history start acts) w m).0)

-- the puts are what is shown where deletes are ignored
puts_shown : (start : Start) (headers_only : Bool) (ws : List Write) → revisions (filter (λ w. is_put w.op) ws) ≡ item_revisions (all_shown (record { start = start; ignore_deletes = true; headers_only = headers_only }) ws)
puts_shown start headers_only [] = refl
puts_shown start headers_only (w ∷ ws) = by_put (is_put w.op) (puts_shown start headers_only ws)
  where
    by_put : (b : Bool)
        → revisions (filter (λ v. is_put v.op) ws) ≡ item_revisions (all_shown (record { start = start; ignore_deletes = true; headers_only = headers_only }) ws)
        → revisions (cond b (w ∷ filter (λ v. is_put v.op) ws) (filter (λ v. is_put v.op) ws))
        ≡ item_revisions (cons_option (cond (not b) None (Some (AnEntry (entry_of headers_only w)))) (all_shown (record { start = start; ignore_deletes = true; headers_only = headers_only }) ws))
    by_put true rest = ap (λ rs. w.revision ∷ rs) rest
    by_put false rest = rest

all_revisions : (start : Start) (headers_only : Bool) (ws : List Write) → revisions ws ≡ item_revisions (all_shown (record { start = start; ignore_deletes = false; headers_only = headers_only }) ws)
all_revisions start headers_only [] = refl
all_revisions start headers_only (w ∷ ws) = ap (λ rs. w.revision ∷ rs) (all_revisions start headers_only ws)

-- without markers where deletes are ignored, the revisions of writes are those of what is shown
pub owed_shown : (start : Start) (ignore_deletes headers_only : Bool) (ws : List Write)
    → cond ignore_deletes (revisions (filter (λ w. is_put w.op) ws)) (revisions ws) ≡ item_revisions (all_shown (record { start = start; ignore_deletes = ignore_deletes; headers_only = headers_only }) ws)
owed_shown start true headers_only ws = puts_shown start headers_only ws
owed_shown start false headers_only ws = all_revisions start headers_only ws

-- ---- in place at the opening

pub opened : (acts : List Act) (base : Stored) → StandsFor acts base → (filters : List (List ℕ)) (options : Options) (owed : List ℕ) (marker : Bool) (seen next : ℕ)
    → owed ≡ item_revisions (all_shown options (matching filters (initial base.config.history options.start acts)))
    → marker_if marker ≡ ending options.start → seen ≡ length (writes_of acts) → next ≡ one_more seen
    → InPlace acts acts 0 base base (record { filters = filters; options = options; owed = owed; marker = marker; seen = seen; next = next; handed = 0 })
opened acts base s filters options owed marker seen next o m e x =
    let initials = all_shown options (matching filters (initial base.config.history options.start acts)) in
    let lives = all_shown options (matching filters (drop (length (writes_of acts)) (writes_of acts))) in
    let none₁ : 0 - length initials ≡ 0 = omega arith in
    let none₂ : 0 - length initials - length (ending options.start) ≡ 0 = omega arith in
    record {
      base_stands = s;
      now_stands = s;
      same_config = refl;
      prefix = ([], append-nil acts);
      handed = refl;
      taken = omega arith;
      owed = o;
      marker = m ∙ ap (λ k. drop k (ending options.start)) (sym none₁);
      left = ap (λ ws. all_shown options (matching filters ws)) (behind_counted seen (writes_of acts) (counts acts base s) ∙ ap (λ k. drop k (writes_of acts)) e) ∙ ap (λ k. drop k lives) (sym none₂);
      begun = omega (arith, e);
      seen = omega (arith, e);
      next = x ∙ one_within seen (omega (arith, e, few_writes acts base s)) ∙ add-one seen ∙ ap suc e ∙ sym (ap (λ k. suc (unwrap_or (last_or None (item_revisions (take k lives))) (length (writes_of acts)))) none₂);
    }
  where
    one_within : (n : ℕ) → n ≤ 4294967295 → one_more n ≡ n + 1
    one_within n l = omega arith

-- ---- in place for later versions

pub in_place_later : (n : ℕ) (began acts later : List Act) (base now newer : Stored) (cursor : Following) → InPlace began acts n base now cursor → StandsFor later newer → newer.config ≡ now.config → IsPrefix acts later
    → InPlace began later n base newer cursor
in_place_later n began acts later base now newer cursor at s same p =
    let filters = cursor.filters in
    let options = cursor.options in
    let h = base.config.history in
    let fewer = no_fewer_writes began acts at.prefix in
    let initials = all_shown options (matching filters (initial h options.start began)) in
    let more = all_shown options (matching filters (writes_of p.0)) in
    let m = n - length initials - length (ending options.start) in
    let lives : live_to began later cursor ≡ live_to began acts cursor ++ more = ap (λ as'. live_to began as' cursor) (sym p.1) ∙ live-append began acts p.0 filters options fewer in
    let all : given_to h began later cursor ≡ given_to h began acts cursor ++ more = ap (λ as'. given h began as' filters options) (sym p.1) ∙ given-append h began acts p.0 filters options fewer in
    let parts : length (given_to h began acts cursor) ≡ length initials + (length (ending options.start) + length (live_to began acts cursor)) = length-append initials (ending options.start ++ live_to began acts cursor) ∙ ap (λ k. length initials + k) (length-append (ending options.start) (live_to began acts cursor)) in
    let inside : m ≤ length (live_to began acts cursor) = omega (arith, at.taken, parts) in
    let ws : writes_of later ≡ writes_of acts ++ writes_of p.0 = ap writes_of (sym p.1) ∙ writes_of-append acts p.0 in
    let before : shown_behind cursor.seen acts filters options ≡ all_shown options (matching filters (drop cursor.seen (writes_of acts))) = ap (λ vs. all_shown options (matching filters vs)) (behind_counted cursor.seen (writes_of acts) (counts acts now at.now_stands)) in
    let after : shown_behind cursor.seen later filters options ≡ all_shown options (matching filters (drop cursor.seen (writes_of later))) = ap (λ vs. all_shown options (matching filters vs)) (behind_counted cursor.seen (writes_of later) (counts later newer s)) in
    record {
      base_stands = at.base_stands;
      now_stands = s;
      same_config = same ∙ at.same_config;
      prefix = (at.prefix.0 ++ p.0, sym (append_assoc began at.prefix.0 p.0) ∙ ap (λ xs. xs ++ p.0) at.prefix.1 ∙ p.1);
      handed = at.handed;
      taken = omega (arith, at.taken, ap length all, length-append (given_to h began acts cursor) more);
      owed = at.owed;
      marker = at.marker;
      left = after
          ∙ ap (λ vs. all_shown options (matching filters vs)) (ap (drop cursor.seen) ws ∙ drop-append-le cursor.seen (writes_of acts) (writes_of p.0) at.seen)
          ∙ all_shown-matching-append options filters (drop cursor.seen (writes_of acts)) (writes_of p.0)
          ∙ ap (λ xs. xs ++ more) (sym before ∙ at.left)
          ∙ sym (ap (drop m) lives ∙ drop-append-le m (live_to began acts cursor) more inside);
      begun = at.begun;
      seen = omega (arith, at.seen, no_fewer_writes acts later p);
      next = at.next ∙ sym (ap (λ xs. suc (unwrap_or (last_or None (item_revisions xs)) (length (writes_of began)))) (ap (take m) lives ∙ take-append-le m (live_to began acts cursor) more inside));
    }
