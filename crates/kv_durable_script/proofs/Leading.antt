-- The script of a file leads to the acts of its entries.
use Rattle.std.proofs.Common.{◌≡◌, ℕ, zero, suc, ◌+◌, ◌-◌, ◌^◌, ◌<◌, ◌≤◌, ◌==◌, Bool, true, false, cond, ◌&&◌, List, [], ◌∷◌, ◌++◌, length, map, take, slice_index, Option, Some, None, Result, Ok, Err, codes, refl, sym, ap, ◌∙◌, subst, arith, append_assoc, append-nil, length-append}
use Rattle.std.specs.Prelude.{⊤, nat_lt, decimal}
use Rattle.std.specs.List.{AllByRecursion, list_all, slice_split}
use Rattle.std.specs.Io.BufRead.{strip_last}
use Rattle.std.proofs.lemmas.Bool.{and_parts, ltb-false, ne_eqb}
use Rattle.std.proofs.lemmas.Bool.Decides.{nat_tests}
use Rattle.std.proofs.lemmas.List.{length-map}
use Rattle.std.proofs.lemmas.List.Splits.{slice_split_at}
use Rattle.base64.specs.GeneralPurpose.{IsBytes}
use Rattle.kv_keys.specs.Grammar.{is_key}
use Rattle.kv_keys.specs.declared.error.KvError.{KvError}
use Rattle.kv_keys.specs.declared.error.KvError.TheVariants.{BadFloor, ValueTooLarge, Sealed, JournalFull}
use Rattle.kv_model.specs.Acceptance.{IsAccepted, LawfulFrom, accept, is_full, next_write, objection, unless}
use Rattle.kv_model.specs.Acts.{Act, Wrote, Seal, Compact, Write, is_sealed, writes_of}
use Rattle.kv_model.specs.Batches.{accept_all, after_batch, and_rest, behind_one}
use Rattle.kv_model.specs.Configuration.{Configuration, IsLegal}
use Rattle.kv_model.specs.Requests.{Asked, create, delete, key_of, purge, put, update, value_of, write_for}
use Rattle.kv_model.specs.State.{State, after_compact, after_write}
use Rattle.kv_model.specs.declared.batch.BatchRefused.{BatchRefused}
use Rattle.kv_model.proofs.Numbered.{accepted_is_next, writes_of-append}
use Rattle.kv_script.specs.Commands as commands
use Rattle.kv_script.specs.Commands.{Meaning, is_skipped, line_command, line_write}
use Rattle.kv_script.specs.declared.form.Form.TheVariants.{Base64}
use Rattle.kv_replay.specs.Batches.{Asks, all_asked, behind_ask, outcome}
use Rattle.kv_replay.specs.Lines.{behind, lines_of}
use Rattle.kv_replay.specs.Sessions.{Begun, Session, Turn, batch_ends, batch_goes_on, batch_size, begins, fresh, line_next, outside, state_behind, turn}
use Rattle.kv_replay.specs.Text.{steps, steps_next}
use Rattle.kv_replay.proofs.Standing.{turn_counted}
use Rattle.kv_journal.specs.Entries.{AreLawful, Entry, IsLawfulContent, acts_in, acts_of}
use Rattle.kv_journal.specs.Records.{Content, did, did_all, closed}
use Rattle.kv_durable_script.specs.Dumps.{IsOfBytes, act_line, commands_of, content_lines, dump_text, is_write, lines_text}
use Rattle.kv_durable_script.proofs.Asking.{batch_asks, batch_is_line, compact_asks, compact_is_line, delete_asks, delete_is_line, delete_writes, purge_asks, purge_is_line, purge_writes, put_asks, put_is_line, put_writes, seal_asks, value_words}
use Rattle.kv_durable_script.proofs.Lawful.{IsWithin, accepted_within, can_acts, can_content, fits_act, most_revisions, most_value, passes}
use Rattle.kv_durable_script.proofs.Words.{IsLine, is_line_byte, no_feed}

-- ---- lines are read as they were written

no_return_byte : (c : ℕ) → is_line_byte c ≡ true → (c == 13) ≡ false
no_return_byte c h = grind (arith, nat_tests)

no_return : (line : List ℕ) → IsLine line → (i : ℕ) → (slice_index line i == 13) ≡ false
no_return [] h i = refl
no_return (c ∷ cs) h zero = no_return_byte c (and_parts (is_line_byte c) (list_all is_line_byte cs) h).0
no_return (c ∷ cs) h (suc i) = no_return cs (and_parts (is_line_byte c) (list_all is_line_byte cs) h).1 i

and_no : (b : Bool) → (b && false) ≡ false
and_no true = refl
and_no false = refl

strip_line : (line : List ℕ) → IsLine line → strip_last 13 line ≡ line
strip_line line h =
    ap (λ (b : Bool). cond b (take (length line - 1) line) line) (ap (λ (b : Bool). nat_lt 0 (length line) && b) (no_return line h (length line - 1)) ∙ and_no (nat_lt 0 (length line)))

lines_back : (lines : List (List ℕ)) → AllByRecursion IsLine lines → lines_of (lines_text lines) ≡ lines ++ [] ∷ []
lines_back [] h = refl
lines_back (line ∷ lines) h =
    ap (slice_split (λ byte. byte == 10)) (append_assoc line (10 ∷ []) (lines_text lines))
    ∙ slice_split_at (λ byte. byte == 10) line 10 (lines_text lines) (no_feed line h.0) refl
    ∙ ap (λ (more : List (List ℕ)). line ∷ more) (lines_back lines h.1)

abbrev Next : Session → List ℕ → Session
Next = line_next Base64

behind-append : (s : Session) (xs ys : List (List ℕ)) → behind Next s (xs ++ ys) ≡ behind Next (behind Next s xs) ys
behind-append s [] ys = refl
behind-append s (x ∷ xs) ys = behind-append (Next s x) xs ys

empty_line : (s : Session) → Next s [] ≡ s
unfolding line_next turn
empty_line s = refl

-- ---- one line

abbrev state_at : Configuration → List Act → State
state_at config acts = record { config = config; acts = acts; watches = [] }

single_line : (s : State) (line : List ℕ) (m : Meaning) → IsLine line → is_skipped line ≡ false → line_command Base64 line ≡ Ok m → batch_size (Ok m) ≡ None → Next (outside s) line ≡ outside (steps_next s (steps Base64 s m))
unfolding line_next
single_line s line m is counts asks alone =
    ap (λ (l : List ℕ). (turn Base64 (outside s) l).1) (strip_line line is)
    ∙ ap (λ (t : Turn). t.1) (turn_counted Base64 (outside s) line None counts refl)
    ∙ ap (λ (command : Result Meaning KvError). (begins Base64 s command (batch_size command)).1) asks
    ∙ ap (λ (size : Option ℕ). (begins Base64 s (Ok m) size).1) alone

-- a line that asks for this, outside a batch and in one
record Told (a : Asked) (line : List ℕ) : Type 0 where
  is_line : IsLine line
  counts : is_skipped line ≡ false
  asks : line_command Base64 line ≡ Ok (commands.Write a)
  writes : line_write Base64 line ≡ Ok a

-- what asks for the same write, and nothing of those before it
abbrev plain_of : Asked → Asked
plain_of (put key value) = put key value
plain_of (create key value) = put key value
plain_of (update key value last) = put key value
plain_of (delete key last) = delete key None
plain_of (purge key last) = purge key None

told : (b : Asked) (revision : ℕ) → is_key (key_of b) ≡ true → IsBytes (value_of b) → length (value_of b) ≤ 1048576 → Told (plain_of b) (act_line (Wrote (write_for b revision)))
told (put key value) revision is bytes fits =
    let word = value_words value bytes fits in
    record { is_line = put_is_line key value is word; counts = refl; asks = put_asks key value is word; writes = put_writes key value is word }
told (create key value) revision is bytes fits =
    let word = value_words value bytes fits in
    record { is_line = put_is_line key value is word; counts = refl; asks = put_asks key value is word; writes = put_writes key value is word }
told (update key value last) revision is bytes fits =
    let word = value_words value bytes fits in
    record { is_line = put_is_line key value is word; counts = refl; asks = put_asks key value is word; writes = put_writes key value is word }
told (delete key last) revision is bytes fits = record { is_line = delete_is_line key is; counts = refl; asks = delete_asks key is; writes = delete_writes key is }
told (purge key last) revision is bytes fits = record { is_line = purge_is_line key is; counts = refl; asks = purge_asks key is; writes = purge_writes key is }

module _ (config : Configuration) (acts : List Act) where
  plain_accepted : (b : Asked) (w : Write) → accept config b acts ≡ Ok w → accept config (plain_of b) acts ≡ Ok w
  plain_accepted b w h = by b h
    where
      first : (b : Asked) (h : accept config b acts ≡ Ok w) → (nat_lt config.value_limit (length (value_of b)) ≡ false) × (is_sealed acts ≡ false) × (is_full config acts ≡ false)
      first b h =
          let w₃ = unless (objection b acts) (next_write b acts) in
          let w₂ = cond (is_full config acts) (Err JournalFull) w₃ in
          let w₁ = cond (is_sealed acts) (Err Sealed) w₂ in
          let one = passes (nat_lt config.value_limit (length (value_of b))) ValueTooLarge w₁ w h in
          let two = passes (is_sealed acts) Sealed w₂ w one.1 in
          (one.0, two.0, (passes (is_full config acts) JournalFull w₃ w two.1).0)

      by : (b : Asked) → accept config b acts ≡ Ok w → accept config (plain_of b) acts ≡ Ok w
      by (put key value) h = h
      by (create key value) h = let no = first (create key value) h in rw (no.0, no.1, no.2) (ap Ok (accepted_is_next config (create key value) acts w h))
      by (update key value last) h = let no = first (update key value last) h in rw (no.0, no.1, no.2) (ap Ok (accepted_is_next config (update key value last) acts w h))
      by (delete key last) h = let no = first (delete key last) h in rw (no.0, no.1, no.2) (ap Ok (accepted_is_next config (delete key last) acts w h))
      by (purge key last) h = let no = first (purge key last) h in rw (no.0, no.1, no.2) (ap Ok (accepted_is_next config (purge key last) acts w h))

  small : (b : Asked) (w : Write) → IsLegal config → accept config b acts ≡ Ok w → length (value_of b) ≤ 1048576
  small b w legal h =
      let w₃ = unless (objection b acts) (next_write b acts) in
      let w₂ = cond (is_full config acts) (Err JournalFull) w₃ in
      let w₁ = cond (is_sealed acts) (Err Sealed) w₂ in
      omega (arith, ltb-false config.value_limit (length (value_of b)) (passes (nat_lt config.value_limit (length (value_of b))) ValueTooLarge w₁ w h).0, most_value config legal.1)

  -- an accepted write, by the line that asks for it
  asked_by : (w : Write) → IsLegal config → IsAccepted config acts (Wrote w) → IsBytes w.value → (a : Asked) × Told a (act_line (Wrote w)) × (accept config a acts ≡ Ok w)
  asked_by w legal h bytes =
      let b : Asked = h.0 in
      let next = accepted_is_next config b acts w h.1.1 in (
        plain_of b,
        subst (λ (v : Write). Told (plain_of b) (act_line (Wrote v))) next
            (told b (length (writes_of acts) + 1) h.1.0 (subst (λ (v : Write). IsBytes v.value) (sym next) bytes) (small b w legal h.1.1)),
        plain_accepted b w h.1.1,
      )

  -- each act of its own, by its line
  act_leads : (act : Act) → IsLegal config → IsAccepted config acts act → IsWithin config acts → IsOfBytes act → IsLine (act_line act) × (Next (outside (state_at config acts)) (act_line act) ≡ outside (state_at config (acts ++ act ∷ [])))
  act_leads (Wrote w) legal h within bytes =
      let by = asked_by w legal h bytes in (
        by.1.is_line,
        single_line (state_at config acts) (act_line (Wrote w)) (commands.Write by.0) by.1.is_line by.1.counts by.1.asks refl
            ∙ ap (λ (r : Result Write KvError). outside (after_write (state_at config acts) r)) by.2,
      )
  act_leads Seal legal h within bytes = (refl, single_line (state_at config acts) (codes "seal") commands.Seal refl refl seal_asks refl)
  act_leads (Compact floor) legal h within bytes =
      let fits = fits_act config acts (Compact floor) legal h within in
      let line = compact_is_line floor fits in (
        line,
        single_line (state_at config acts) (codes "compact " ++ decimal floor) (commands.Compact floor) line refl (compact_asks floor fits) refl
            ∙ ap (λ (r : Result ℕ KvError). outside (after_compact (state_at config acts) r)) (ap (λ (b : Bool). cond b (Err BadFloor) (Ok floor)) h),
      )

pub acts_lead : (config : Configuration) (before acts : List Act) → IsLegal config → LawfulFrom config before acts → IsWithin config before → AllByRecursion IsOfBytes acts
    → AllByRecursion IsLine (map act_line acts) × (behind Next (outside (state_at config before)) (map act_line acts) ≡ outside (state_at config (before ++ acts)))
acts_lead config before [] legal h within bytes = (tt, ap (λ (acts : List Act). outside (state_at config acts)) (sym (append-nil before)))
acts_lead config before (act ∷ acts) legal h within bytes =
    let here = act_leads config before act legal h.0 within bytes.0 in
    let more = acts_lead config (before ++ act ∷ []) acts legal h.1 (accepted_within config before act h.0 within) bytes.1 in (
      (here.0, more.0),
      ap (λ (s : Session). behind Next s (map act_line acts)) here.1 ∙ more.1 ∙ ap (λ (xs : List Act). outside (state_at config xs)) (append_assoc before (act ∷ []) acts),
    )

-- ---- a batch

abbrev goes : State → ℕ → Asks → Session
goes s n asks = (batch_goes_on s n asks).1

start_line : (s : State) (line : List ℕ) (n : ℕ) → IsLine line → is_skipped line ≡ false → line_command Base64 line ≡ Ok (commands.Batch n) → Next (outside s) line ≡ goes s n []
unfolding line_next
start_line s line n is counts asks =
    ap (λ (l : List ℕ). (turn Base64 (outside s) l).1) (strip_line line is)
    ∙ ap (λ (t : Turn). t.1) (turn_counted Base64 (outside s) line None counts refl)
    ∙ ap (λ (command : Result Meaning KvError). (begins Base64 s command (batch_size command)).1) asks

mid_line : (s : State) (begun : Begun) (line : List ℕ) (a : Asked) → Told a line → Next (record { state = s; batch = Some begun }) line ≡ goes s (begun.awaited - 1) (begun.asks ++ Ok a ∷ [])
unfolding line_next
mid_line s begun line a t =
    let session : Session = record { state = s; batch = Some begun } in
    ap (λ (l : List ℕ). (turn Base64 session l).1) (strip_line line t.is_line)
    ∙ ap (λ (t : Turn). t.1) (turn_counted Base64 session line (Some begun) t.counts refl)
    ∙ ap (λ (ask : Result Asked KvError). (batch_goes_on s (begun.awaited - 1) (begun.asks ++ ask ∷ [])).1) t.writes

abbrev AskLines : List Asked → List (List ℕ) → Type 0
AskLines [] [] = ⊤
AskLines [] (line ∷ lines) = ⊥
AskLines (a ∷ asks) [] = ⊥
AskLines (a ∷ asks) (line ∷ lines) = Told a line × AskLines asks lines

abbrev okays : List Asked → Asks
okays reqs = map (λ (a : Asked). Ok a) reqs

pending : (s : State) (n : ℕ) (asks : Asks) → goes s (suc n) asks ≡ record { state = s; batch = Some (record { awaited = suc n; asks = asks }) }
pending s n asks =
    ap (λ (all : Bool). (cond {A = Turn} all (batch_ends s asks) ([], record { state = s; batch = Some (record { awaited = suc n; asks = asks }) })).1) (ne_eqb (suc n) 0 (λ e. omega (arith, e)))

one_less : (n : ℕ) → suc n - 1 ≡ n
one_less n = omega arith

in_batch : (s : State) (asks : Asks) (reqs : List Asked) (lines : List (List ℕ)) → AskLines reqs lines
    → behind Next (goes s (length lines) asks) lines ≡ outside (after_batch s (outcome s (all_asked (asks ++ okays reqs))))
in_batch s asks [] [] h = ap (λ (xs : Asks). outside (after_batch s (outcome s (all_asked xs)))) (sym (append-nil asks))
in_batch s asks [] (line ∷ lines) h = absurd h
in_batch s asks (a ∷ reqs) [] h = absurd h
in_batch s asks (a ∷ reqs) (line ∷ lines) h =
    ap (λ (t : Session). behind Next (Next t line) lines) (pending s (length lines) asks)
    ∙ ap (λ (t : Session). behind Next t lines) (mid_line s (record { awaited = suc (length lines); asks = asks }) line a h.0)
    ∙ ap (λ (n : ℕ). behind Next (goes s n (asks ++ Ok a ∷ [])) lines) (one_less (length lines))
    ∙ in_batch s (asks ++ Ok a ∷ []) reqs lines h.1
    ∙ ap (λ (xs : Asks). outside (after_batch s (outcome s (all_asked xs)))) (append_assoc asks (Ok a ∷ []) (okays reqs))

all_okay : (reqs : List Asked) → all_asked (okays reqs) ≡ Ok reqs
all_okay [] = refl
all_okay (a ∷ reqs) = ap (behind_ask a) (all_okay reqs)

-- what the lines of some writes ask for, and that all are accepted
record AllAsked (config : Configuration) (before acts : List Act) : Type 0 where
  reqs : List Asked
  ws : List Write
  accepted : accept_all config reqs before ≡ Ok ws
  same : map (λ (w : Write). Wrote w) ws ≡ acts
  lines : AskLines reqs (map act_line acts)

all_asked_by : (config : Configuration) (before acts : List Act) → IsLegal config → LawfulFrom config before acts → list_all is_write acts ≡ true → AllByRecursion IsOfBytes acts → AllAsked config before acts
all_asked_by config before [] legal h writes bytes = record { reqs = []; ws = []; accepted = refl; same = refl; lines = tt }
all_asked_by config before (Wrote w ∷ acts) legal h writes bytes =
    let by = asked_by config before w legal h.0 bytes.0 in
    let more = all_asked_by config (before ++ Wrote w ∷ []) acts legal h.1 writes bytes.1 in
    record {
      reqs = by.0 ∷ more.reqs;
      ws = w ∷ more.ws;
      accepted = ap (λ (r : Result Write KvError). and_rest r (λ w. accept_all config more.reqs (before ++ Wrote w ∷ []))) by.2 ∙ ap (behind_one w) more.accepted;
      same = ap (λ (xs : List Act). Wrote w ∷ xs) more.same;
      lines = (by.1, more.lines);
    }
all_asked_by config before (Seal ∷ acts) legal h writes bytes = absurd (let no : ⊥ = cc in no)
all_asked_by config before (Compact floor ∷ acts) legal h writes bytes = absurd (let no : ⊥ = cc in no)

few_acts : (acts : List Act) → list_all is_write acts ≡ true → length (writes_of acts) ≡ length acts
few_acts [] h = refl
few_acts (Wrote w ∷ acts) h = ap suc (few_acts acts h)
few_acts (Seal ∷ acts) h = absurd (let no : ⊥ = cc in no)
few_acts (Compact floor ∷ acts) h = absurd (let no : ⊥ = cc in no)

batch_lead : (config : Configuration) (before acts : List Act) → IsLegal config → LawfulFrom config before acts → IsWithin config before → AllByRecursion IsOfBytes acts → list_all is_write acts ≡ true
    → AllByRecursion IsLine ((codes "batch " ++ decimal (length acts)) ∷ map act_line acts)
    × (behind Next (outside (state_at config before)) ((codes "batch " ++ decimal (length acts)) ∷ map act_line acts) ≡ outside (state_at config (before ++ acts)))
batch_lead config before acts legal h within bytes writes =
    let s : State = state_at config before in
    let behind_all : IsWithin config (before ++ acts) = (can_acts config before acts legal h within).1 in
    let few : length acts < 2 ^ 64 =
    omega (arith, behind_all, most_revisions config legal.1, few_acts acts writes, ap length (writes_of-append before acts), length-append (writes_of before) (writes_of acts)) in
    let line = batch_is_line (length acts) few in
    let all = all_asked_by config before acts legal h writes bytes in
    let lines = map act_line acts in
    let there : goes s (length acts) [] ≡ goes s (length lines) [] = ap (λ (n : ℕ). goes s n []) (sym (length-map acts act_line)) in (
      (line, (acts_lead config before acts legal h within bytes).0),
      ap (λ (t : Session). behind Next t lines) (start_line s (codes "batch " ++ decimal (length acts)) (length acts) line refl (batch_asks (length acts) few) ∙ there)
          ∙ in_batch s [] all.reqs lines all.lines
          ∙ ap (λ (asked : Result (List Asked) BatchRefused). outside (after_batch s (outcome s asked))) (all_okay all.reqs)
          ∙ ap (λ (r : Result (List Write) BatchRefused). outside (after_batch s r)) all.accepted
          ∙ ap (λ (xs : List Act). outside (state_at config (before ++ xs))) all.same,
    )

-- ---- entries

all_split : (xs ys : List Act) → AllByRecursion IsOfBytes (xs ++ ys) → AllByRecursion IsOfBytes xs × AllByRecursion IsOfBytes ys
all_split [] ys h = (tt, h)
all_split (x ∷ xs) ys h = let more = all_split xs ys h.1 in ((h.0, more.0), more.1)

lines_join : (xs ys : List (List ℕ)) → AllByRecursion IsLine xs → AllByRecursion IsLine ys → AllByRecursion IsLine (xs ++ ys)
lines_join [] ys h k = k
lines_join (x ∷ xs) ys h k = (h.0, lines_join xs ys h.1 k)

abbrev pub Leads : Configuration → (before acts : List Act) → List (List ℕ) → Type 0
Leads config before acts lines = AllByRecursion IsLine lines × (behind Next (outside (state_at config before)) lines ≡ outside (state_at config (before ++ acts)))

all_lead : (config : Configuration) (before acts : List Act) → IsLegal config → LawfulFrom config before acts → IsWithin config before → AllByRecursion IsOfBytes acts
    → (writes : Bool) → list_all is_write acts ≡ writes → Leads config before acts (cond writes ((codes "batch " ++ decimal (length acts)) ∷ []) [] ++ map act_line acts)
all_lead config before acts legal h within bytes true is = batch_lead config before acts legal h within bytes is
all_lead config before acts legal h within bytes false is = acts_lead config before acts legal h within bytes

content_leads : (config : Configuration) (before : List Act) (content : Content) → IsLegal config → IsLawfulContent config before content → IsWithin config before → AllByRecursion IsOfBytes (acts_in content)
    → Leads config before (acts_in content) (content_lines content)
content_leads config before (did act) legal h within bytes =
    let here = act_leads config before act legal h within bytes.0 in
    ((here.0, tt), here.1)
content_leads config before (did_all acts) legal h within bytes = all_lead config before acts legal h within bytes (list_all is_write acts) refl
content_leads config before (closed last) legal h within bytes = (tt, ap (λ (acts : List Act). outside (state_at config acts)) (sym (append-nil before)))

entries_lead : (config : Configuration) (before : List Act) (entries : List Entry) → IsLegal config → AreLawful config before entries → IsWithin config before → AllByRecursion IsOfBytes (acts_of entries)
    → Leads config before (acts_of entries) (commands_of entries)
entries_lead config before [] legal h within bytes = (tt, ap (λ (acts : List Act). outside (state_at config acts)) (sym (append-nil before)))
entries_lead config before (entry ∷ entries) legal h within bytes =
    let acts = acts_in entry.content in
    let both = all_split acts (acts_of entries) bytes in
    let here = content_leads config before entry.content legal h.0.1 within both.0 in
    let more = entries_lead config (before ++ acts) entries legal h.1 (can_content config before entry.content legal h.0.1 within).1 both.1 in (
      lines_join (content_lines entry.content) (commands_of entries) here.0 more.0,
      behind-append (outside (state_at config before)) (content_lines entry.content) (commands_of entries)
          ∙ ap (λ (s : Session). behind Next s (commands_of entries)) here.1 ∙ more.1
          ∙ ap (λ (xs : List Act). outside (state_at config xs)) (append_assoc before acts (acts_of entries)),
    )

-- from the beginning of a script
pub commands_lead : (config : Configuration) (acts : List Act) (lines : List (List ℕ)) → Leads config [] acts lines → (state_behind Base64 (fresh config) (lines_text lines)).acts ≡ acts
commands_lead config acts lines all =
    ap (λ (s : Session). s.state.acts)
    (ap (behind Next (fresh config)) (lines_back lines all.0) ∙ behind-append (fresh config) lines ([] ∷ []) ∙ empty_line (behind Next (fresh config) lines) ∙ all.1)

pub dump_leads : (config : Configuration) (entries : List Entry) → IsLegal config → AreLawful config [] entries → AllByRecursion IsOfBytes (acts_of entries)
    → (state_behind Base64 (fresh config) (dump_text entries)).acts ≡ acts_of entries
dump_leads config entries legal h bytes = commands_lead config (acts_of entries) (commands_of entries) (entries_lead config [] entries legal h (omega arith) bytes)
