-- Several acts that are told at once, and done again one by one.
use Rattle.std.proofs.Common.{◌≡◌, ℕ, ◌^◌, ◌<◌, ◌≤◌, Bool, true, false, cond, List, [], ◌∷◌, ◌++◌, length, get_or, take, drop, Result, Ok, Err, refl, sym, ap, ◌∙◌, subst, arith, append_assoc, append-nil, length-append}
use Rattle.std.specs.Prelude.{nat_lt, nat_le, ◌&&◌}
use Rattle.std.specs.Int.{w32, to_be_bytes}
use Rattle.std.proofs.lemmas.Bool.{and_parts, leb-true, ltb-false}
use Rattle.kv_frames.proofs.Fronts.{same_number as same_length, sides}
use Rattle.kv_keys.specs.Grammar.{is_key}
use Rattle.kv_keys.specs.declared.error.KvError.{KvError}
use Rattle.kv_keys.specs.declared.error.KvError.TheVariants.{ValueTooLarge}
use Rattle.kv_model.specs.Acceptance.{IsAccepted, LawfulFrom}
use Rattle.kv_model.specs.Acts.{Act, Wrote, Seal, Compact, Write}
use Rattle.kv_model.specs.Configuration.{Configuration, IsLegal, has_legal_numbers}
use Rattle.kv_model.specs.Requests.{value_of}
use Rattle.kv_model.proofs.Numbered.{accepted_is_next}
use Rattle.kv_store.specs.Standing.{StandsFor}
use Rattle.kv_store.specs.Stored.{Stored}
use Rattle.kv_journal.specs.Entries.{IsLawfulContent}
use Rattle.kv_journal.specs.Records.{Content, did, did_all, closed, act_record, act_records, record_of}
use Rattle.kv_journal.specs.inside.Redoes.{Redoes, RedoesAct}
use Rattle.kv_journal.proofs.Ascii.{key_fits}
use Rattle.kv_journal.proofs.Saying.{kind_low}

abbrev first : List ℕ → ℕ
first xs = get_or xs 0 0

pub act_low : (act : Act) → first (act_record act) < 9
act_low (Wrote w) = omega (arith, kind_low w.op)
act_low Seal = omega arith
act_low (Compact floor) = omega arith

-- ---- the record of an accepted act is short

passes : (b : Bool) (rest : Result Write KvError) (w : Write) → cond b (Err ValueTooLarge) rest ≡ Ok w → b ≡ false
passes true rest w h = absurd cc
passes false rest w h = refl

most_value : (config : Configuration) → has_legal_numbers config ≡ true → config.value_limit ≤ 1048576
most_value config h =
    let a = nat_le 1 config.history && nat_le config.history 64 in
    let b = nat_le config.value_limit 1048576 in
    let c = nat_le 1 config.write_limit && nat_le config.write_limit 1000000 in
    let d = nat_le 1 config.revision_limit && nat_le config.revision_limit 4294967295 in
    leb-true config.value_limit 1048576 (and_parts a b (and_parts (a && b) c (and_parts ((a && b) && c) d h).0).0).1

pub short_record : (config : Configuration) (before : List Act) (act : Act) → IsLegal config → IsAccepted config before act → length (act_record act) < 2 ^ 32
short_record config before (Wrote w) legal h =
    let next = accepted_is_next config h.0 before w h.1.1 in
    let key : length w.key ≤ 255 = key_fits w.key (subst (λ (v : Write). is_key v.key ≡ true) next h.1.0) in
    let small = ltb-false config.value_limit (length (value_of h.0)) (passes (nat_lt config.value_limit (length (value_of h.0))) _ w h.1.1) in
    let value : length w.value ≤ 1048576 = omega (arith, small, most_value config legal.1, ap (λ (v : Write). length v.value) next) in
    omega (arith, key, value, length-append w.key w.value)
short_record config before Seal legal h = omega arith
short_record config before (Compact floor) legal h = omega arith

-- ---- records one behind the other

pub records_append : (xs ys : List Act) → act_records (xs ++ ys) ≡ act_records xs ++ act_records ys
records_append [] ys = refl
records_append (x ∷ xs) ys =
    let size = to_be_bytes w32 (length (act_record x)) in
    ap (λ (more : List ℕ). size ++ (act_record x ++ more)) (records_append xs ys)
    ∙ ap (λ (more : List ℕ). size ++ more) (sym (append_assoc (act_record x) (act_records xs) (act_records ys)))
    ∙ sym (append_assoc size (act_record x ++ act_records xs) (act_records ys))

-- at the front of bytes stands one record behind its length
pub one_part : (p q x y : List ℕ) → length p < 2 ^ 32 → length q < 2 ^ 32 → to_be_bytes w32 (length p) ++ (p ++ x) ≡ to_be_bytes w32 (length q) ++ (q ++ y) → (p ≡ q) × (x ≡ y)
one_part p q x y hp hq e =
    sides p x q y (same_length (length p) (length q) hp hq (ap (λ (w : List ℕ). take 4 w) e)) (ap (λ (w : List ℕ). drop 4 w) e)

pub some_there : (p x : List ℕ) → [] ≡ to_be_bytes w32 (length p) ++ (p ++ x) → ⊥
some_there p x e = omega (arith, ap (λ (w : List ℕ). length w) e)

-- of lawful acts the last ones are lawful behind the first
pub lawful_behind : (config : Configuration) (before xs ys : List Act) → LawfulFrom config before (xs ++ ys) → LawfulFrom config (before ++ xs) ys
lawful_behind config before [] ys h = subst (λ (acts : List Act). LawfulFrom config acts ys) (sym (append-nil before)) h
lawful_behind config before (x ∷ xs) ys h = subst (λ (acts : List Act). LawfulFrom config acts ys) (append_assoc before (x ∷ []) xs) (lawful_behind config (before ++ x ∷ []) xs ys h.1)

lawful_push : (config : Configuration) (before xs : List Act) (x : Act) → LawfulFrom config before xs → IsAccepted config (before ++ xs) x → LawfulFrom config before (xs ++ x ∷ [])
lawful_push config before [] x each one = (subst (λ (acts : List Act). IsAccepted config acts x) (append-nil before) one, tt)
lawful_push config before (y ∷ ys) x each one =
    (each.0, lawful_push config (before ++ y ∷ []) ys x each.1 (subst (λ (acts : List Act). IsAccepted config acts x) (sym (append_assoc before (y ∷ []) ys)) one))

-- ---- one act

pub act_redone : (bytes : List ℕ) (content : Content) (old new : Stored) → first bytes < 9 → Redoes bytes content old new → (act : Act) × RedoesAct bytes act old new
act_redone bytes (did act) old new low redoes = (
  act,
  record {
    has = redoes.has;
    on = redoes.on;
    lawful = redoes.lawful;
    only = λ acts stands other e h. same_act other (redoes.only acts stands (did other) e h);
  },
)
  where
    same_act : (other : Act) → did other ≡ did act → other ≡ act
    same_act other e = cc
act_redone bytes (did_all acts) old new low redoes =
    let d : 10 ≡ first bytes = ap first redoes.has in
    absurd (omega (arith, d, low))
act_redone bytes (closed last) old new low redoes =
    let d : 9 ≡ first bytes = ap first redoes.has in
    absurd (omega (arith, d, low))

-- ---- all of them

-- these acts are done again, whose records stand before the rest, and any others that can be told there go on behind them
pub record AreRedone (old : Stored) (bytes : List ℕ) (acts : List Act) (rest : List ℕ) (version : Stored) : Type 0 where
  pub whole : bytes ≡ act_records acts ++ rest
  pub config : version.config ≡ old.config
  pub on : (before : List Act) → StandsFor before old → StandsFor (before ++ acts) version
  pub lawful : (before : List Act) → StandsFor before old → LawfulFrom old.config before acts
  pub only : (before others : List Act) → StandsFor before old → act_records others ≡ bytes → LawfulFrom old.config before others → (more : List Act) × (others ≡ acts ++ more) × (act_records more ≡ rest)

pub none_redone : (old : Stored) (bytes : List ℕ) (version : Stored) → version ≡ old → AreRedone old bytes [] bytes version
none_redone old bytes version same = record {
  whole = refl;
  config = ap (λ (v : Stored). v.config) same;
  on = λ before stands. subst (λ (v : Stored). StandsFor (before ++ []) v) (sym same) (subst (λ (acts : List Act). StandsFor acts old) (sym (append-nil before)) stands);
  lawful = λ before stands. tt;
  only = λ before others stands e lawful. (others, refl, e);
}

-- what may come next among other acts
next_is : (config : Configuration) (before acts more : List Act) (rest record_there after : List ℕ) → IsLegal config → LawfulFrom config (before ++ acts) more → act_records more ≡ rest → rest ≡ to_be_bytes w32 (length record_there) ++ (record_there ++ after) → length record_there < 2 ^ 32
    → (x : Act) × (xs : List Act) × (more ≡ x ∷ xs) × (act_record x ≡ record_there) × (act_records xs ≡ after) × IsAccepted config (before ++ acts) x
next_is config before acts [] rest record_there after legal lawful e is short = absurd (some_there record_there after (e ∙ is))
next_is config before acts (x ∷ xs) rest record_there after legal lawful e is short =
    let both = one_part (act_record x) record_there (act_records xs) after (short_record config (before ++ acts) x legal lawful.0) short (e ∙ is) in
    (x, xs, refl, both.0, both.1, lawful.0)

pub one_more_redone : (old : Stored) (bytes : List ℕ) (acts : List Act) (rest : List ℕ) (version : Stored) (part after : List ℕ) (act : Act) (new : Stored) → AreRedone old bytes acts rest version
    → rest ≡ to_be_bytes w32 (length part) ++ (part ++ after) → length part < 2 ^ 32 → RedoesAct part act version new → new.config ≡ version.config → AreRedone old bytes (acts ++ act ∷ []) after new
one_more_redone old bytes acts rest version part after act new r is short redoes kept =
    let size = to_be_bytes w32 (length part) in
    let this : act_records (act ∷ []) ++ after ≡ size ++ (part ++ after) =
    ap (λ (p : List ℕ). (to_be_bytes w32 (length p) ++ (p ++ [])) ++ after) redoes.has
    ∙ append_assoc size (part ++ []) after ∙ ap (λ (p : List ℕ). size ++ (p ++ after)) (append-nil part) in
    record {
      whole = r.whole ∙ ap (λ (w : List ℕ). act_records acts ++ w) (is ∙ sym this)
          ∙ sym (append_assoc (act_records acts) (act_records (act ∷ [])) after) ∙ ap (λ (w : List ℕ). w ++ after) (sym (records_append acts (act ∷ [])));
      config = kept ∙ r.config;
      on = λ before stands. subst (λ (xs : List Act). StandsFor xs new) (append_assoc before acts (act ∷ [])) (redoes.on (before ++ acts) (r.on before stands));
      lawful = λ before stands. lawful_push old.config before acts act (r.lawful before stands)
          (subst (λ (config : Configuration). IsAccepted config (before ++ acts) act) r.config (redoes.lawful (before ++ acts) (r.on before stands)));
      only = λ before others stands e lawful.
          let found = r.only before others stands e lawful in
          let behind = lawful_behind old.config before acts found.0 (subst (LawfulFrom old.config before) found.1 lawful) in
          let next = next_is old.config before acts found.0 rest part after stands.legal behind found.2 is short in
          let accepted = subst (λ (config : Configuration). IsAccepted config (before ++ acts) next.0) (sym r.config) next.5 in
          let same : next.0 ≡ act = redoes.only (before ++ acts) (r.on before stands) next.0 next.3 accepted in
          let all : others ≡ (acts ++ act ∷ []) ++ next.1 =
          found.1 ∙ ap (λ (xs : List Act). acts ++ xs) (next.2 ∙ ap (λ (x : Act). x ∷ next.1) same) ∙ sym (append_assoc acts (act ∷ []) next.1) in
          (next.1, all, next.4);
    }

none_left : (more : List Act) → act_records more ≡ [] → more ≡ []
none_left [] e = refl
none_left (x ∷ xs) e = absurd (some_there (act_record x) (act_records xs) (sym e))

all_only : (old : Stored) (bytes : List ℕ) (acts : List Act) (version : Stored) → AreRedone old bytes acts [] version
    → (before : List Act) → StandsFor before old → (other : Content) → record_of other ≡ 10 ∷ bytes → IsLawfulContent old.config before other → other ≡ did_all acts
all_only old bytes acts version r before stands (did act) e h = absurd (omega (arith, ap first e, act_low act))
all_only old bytes acts version r before stands (did_all others) e h =
    let found = r.only before others stands (ap (λ (w : List ℕ). drop 1 w) e) h in
    ap did_all (found.1 ∙ ap (λ (xs : List Act). acts ++ xs) (none_left found.0 found.2) ∙ append-nil acts)
all_only old bytes acts version r before stands (closed last) e h = let d : 9 ≡ 10 = ap first e in absurd (omega (arith, d))

pub all_redone : (old : Stored) (bytes : List ℕ) (acts : List Act) (rest : List ℕ) (version : Stored) → AreRedone old bytes acts rest version → rest ≡ [] → Redoes (10 ∷ bytes) (did_all acts) old version
all_redone old bytes acts rest version r none =
    let own = subst (λ (w : List ℕ). AreRedone old bytes acts w version) none r in
    record {
      has = ap (λ (w : List ℕ). 10 ∷ w) (sym (own.whole ∙ append-nil (act_records acts)));
      on = own.on;
      lawful = own.lawful;
      only = λ before stands. all_only old bytes acts version own before stands;
    }

-- where the rest is no record of an act that can be told there, nothing with all of the record can be
pub never_all : (old : Stored) (bytes : List ℕ) (acts : List Act) (rest : List ℕ) (version : Stored) → AreRedone old bytes acts rest version
    → (rest ≡ [] → ⊥)
    → ((before : List Act) → StandsFor (before ++ acts) version → (act : Act) (after : List ℕ) → length (act_record act) < 2 ^ 32 → rest ≡ to_be_bytes w32 (length (act_record act)) ++ (act_record act ++ after) → IsAccepted version.config (before ++ acts) act → ⊥)
    → (before : List Act) → StandsFor before old → (content : Content) → record_of content ≡ 10 ∷ bytes → IsLawfulContent old.config before content → ⊥
never_all old bytes acts rest version r some none before stands (did act) e h = omega (arith, ap first e, act_low act)
never_all old bytes acts rest version r some none before stands (did_all others) e h =
    let found = r.only before others stands (ap (λ (w : List ℕ). drop 1 w) e) h in
    goes found.0 found.2 (lawful_behind old.config before acts found.0 (subst (LawfulFrom old.config before) found.1 h))
  where
    goes : (more : List Act) → act_records more ≡ rest → LawfulFrom old.config (before ++ acts) more → ⊥
    goes [] there lawful = some (sym there)
    goes (x ∷ xs) there lawful =
        none before (r.on before stands) x (act_records xs) (short_record old.config (before ++ acts) x stands.legal lawful.0) (sym there)
        (subst (λ (config : Configuration). IsAccepted config (before ++ acts) x) (sym r.config) lawful.0)
never_all old bytes acts rest version r some none before stands (closed last) e h = let d : 9 ≡ 10 = ap first e in omega (arith, d)

-- the record that stands there is that of no act that can be told
pub no_part : (config : Configuration) (part after rest : List ℕ) (acts : List Act) → length part < 2 ^ 32 → rest ≡ to_be_bytes w32 (length part) ++ (part ++ after)
    → ((act : Act) → act_record act ≡ part → IsAccepted config acts act → ⊥)
    → (act : Act) (more : List ℕ) → length (act_record act) < 2 ^ 32 → rest ≡ to_be_bytes w32 (length (act_record act)) ++ (act_record act ++ more) → IsAccepted config acts act → ⊥
no_part config part after rest acts short is none act more few there h =
    none act (one_part (act_record act) part more after few short (sym there ∙ is)).0 h

pub some_part : (part after rest : List ℕ) → rest ≡ to_be_bytes w32 (length part) ++ (part ++ after) → rest ≡ [] → ⊥
some_part part after rest is none = some_there part after (sym none ∙ is)
