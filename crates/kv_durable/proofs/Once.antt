-- Entries that can be added to a file are told apart by their payloads.
use Rattle.std.proofs.Common.{◌≡◌, ℕ, ◌^◌, ◌<◌, List, [], ◌∷◌, ◌++◌, length, get_or, take, drop, append-nil, append_assoc, refl, sym, ap, ◌∙◌, subst, arith}
use Rattle.kv_frames.proofs.Fronts.{same_number as same_length}
use Rattle.kv_model.specs.Acceptance.{IsAccepted, IsLawful, LawfulFrom}
use Rattle.kv_model.specs.Acts.{Act, Wrote, Seal, Compact, Write, writes_of}
use Rattle.kv_model.specs.Configuration.{Configuration, IsLegal}
use Rattle.kv_model.specs.declared.write.Op.{Op}
use Rattle.kv_model.proofs.Storing.{next_revision, good_floor}
use Rattle.kv_store.proofs.Standings.{lawful-push}
use Rattle.kv_journal.specs.Records.{Content, did, did_all, closed, act_record, act_records, kind_of, record_of}
use Rattle.kv_journal.specs.Entries.{Entry, payload_of, payloads_of, acts_in, IsLawfulContent, IsLawfulEntry, AreLawful}
use Rattle.kv_journal.proofs.FewWrites.{few_writes}
use Rattle.kv_journal.proofs.Saying.{kind_low, same_write, same_number}
use Rattle.kv_journal.proofs.Together.{act_low, one_part, short_record, some_there}

-- ---- one entry

abbrev first : List ℕ → ℕ
first xs = get_or xs 0 0

made : (key : List ℕ) (op : Op) (value : List ℕ) (revision : ℕ) → Write
made key op value revision = record { key = key; op = op; value = value; revision = revision }

same_fields : (v w : Write) → v.key ≡ w.key → v.op ≡ w.op → v.value ≡ w.value → v.revision ≡ w.revision → v ≡ w
unfolding made
same_fields v w k o x r =
    ap (λ (z : List ℕ). made z v.op v.value v.revision) k
    ∙ ap (λ (z : Op). made w.key z v.value v.revision) o
    ∙ ap (λ (z : List ℕ). made w.key w.op z v.revision) x
    ∙ ap (λ (z : ℕ). made w.key w.op w.value z) r

write_is : (n : ℕ) (op : Op) → 3 < n → kind_of op ≡ n → ⊥
write_is n op high e = omega (arith, high, e, kind_low op)

one_act : (config : Configuration) (before : List Act) → length (writes_of before) < 2 ^ 64 → (a b : Act) → act_record a ≡ act_record b → IsAccepted config before a → IsAccepted config before b → a ≡ b
one_act config before few (Wrote v) (Wrote w) e h k =
    let parts = same_write v.op w.op v.key w.key v.value w.value e in
    ap (λ (x : Write). Wrote x) (same_fields v w parts.1 parts.0 parts.2 (next_revision config before v h ∙ sym (next_revision config before w k)))
one_act config before few (Wrote v) Seal e h k = absurd (write_is 4 v.op (omega arith) (ap first e))
one_act config before few (Wrote v) (Compact floor) e h k = absurd (write_is 5 v.op (omega arith) (ap first e))
one_act config before few Seal (Wrote w) e h k = absurd (write_is 4 w.op (omega arith) (sym (ap first e)))
one_act config before few Seal Seal e h k = refl
one_act config before few Seal (Compact floor) e h k = let d : 4 ≡ 5 = ap first e in absurd (omega (arith, d))
one_act config before few (Compact f) (Wrote w) e h k = absurd (write_is 5 w.op (omega arith) (sym (ap first e)))
one_act config before few (Compact f) Seal e h k = let d : 5 ≡ 4 = ap first e in absurd (omega (arith, d))
one_act config before few (Compact f) (Compact g) e h k =
    let low : f < 2 ^ 64 = omega (arith, (good_floor f before h).0, few) in
    let low_too : g < 2 ^ 64 = omega (arith, (good_floor g before k).0, few) in
    ap (λ (n : ℕ). Compact n) (same_number f g low low_too (ap (λ (xs : List ℕ). drop 1 xs) e))

-- several acts at once
one_batch : (config : Configuration) (before : List Act) → IsLegal config → IsLawful config before → (xs ys : List Act) → act_records xs ≡ act_records ys → LawfulFrom config before xs → LawfulFrom config before ys → xs ≡ ys
one_batch config before legal lawful [] [] e h k = refl
one_batch config before legal lawful [] (y ∷ ys) e h k = absurd (some_there (act_record y) (act_records ys) e)
one_batch config before legal lawful (x ∷ xs) [] e h k = absurd (some_there (act_record x) (act_records xs) (sym e))
one_batch config before legal lawful (x ∷ xs) (y ∷ ys) e h k =
    let both = one_part (act_record x) (act_record y) (act_records xs) (act_records ys) (short_record config before x legal h.0) (short_record config before y legal k.0) e in
    let same = one_act config before (few_writes config before legal lawful) x y both.0 h.0 k.0 in
    let rest = subst (λ (z : Act). LawfulFrom config (before ++ z ∷ []) xs) same h.1 in
    let more = one_batch config (before ++ y ∷ []) legal (lawful-push config before y lawful k.0) xs ys both.1 rest k.1 in
    ap (λ (z : Act). z ∷ xs) same ∙ ap (λ (zs : List Act). y ∷ zs) more

act_is : (n : ℕ) (act : Act) → 8 < n → first (act_record act) ≡ n → ⊥
act_is n act high e = omega (arith, high, e, act_low act)

one_content : (config : Configuration) (before : List Act) → IsLegal config → IsLawful config before → (a b : Content) → record_of a ≡ record_of b → IsLawfulContent config before a → IsLawfulContent config before b → a ≡ b
one_content config before legal lawful (did a) (did b) e h k = ap did (one_act config before (few_writes config before legal lawful) a b e h k)
one_content config before legal lawful (did a) (did_all bs) e h k = absurd (act_is 10 a (omega arith) (ap first e))
one_content config before legal lawful (did a) (closed last) e h k = absurd (act_is 9 a (omega arith) (ap first e))
one_content config before legal lawful (did_all as') (did b) e h k = absurd (act_is 10 b (omega arith) (sym (ap first e)))
one_content config before legal lawful (did_all as') (did_all bs) e h k = ap did_all (one_batch config before legal lawful as' bs (ap (λ (xs : List ℕ). drop 1 xs) e) h k)
one_content config before legal lawful (did_all as') (closed last) e h k = let d : 10 ≡ 9 = ap first e in absurd (omega (arith, d))
one_content config before legal lawful (closed last) (did b) e h k = absurd (act_is 9 b (omega arith) (sym (ap first e)))
one_content config before legal lawful (closed last) (did_all bs) e h k = let d : 9 ≡ 10 = ap first e in absurd (omega (arith, d))
one_content config before legal lawful (closed last) (closed other) e h k = ap closed (h ∙ sym k)

abbrev entry_of : ℕ → Content → Entry
entry_of loose content = record { loose = loose; content = content }

one_entry : (config : Configuration) (before : List Act) → IsLegal config → IsLawful config before → (a b : Entry) → payload_of a ≡ payload_of b → IsLawfulEntry config before a → IsLawfulEntry config before b → a ≡ b
one_entry config before legal lawful a b e h k =
    let loose : a.loose ≡ b.loose = same_length a.loose b.loose h.0 k.0 (ap (λ (xs : List ℕ). take 4 xs) e) in
    let content : a.content ≡ b.content = one_content config before legal lawful a.content b.content (ap (λ (xs : List ℕ). drop 4 xs) e) h.1 k.1 in
    ap (λ (n : ℕ). entry_of n a.content) loose ∙ ap (λ (c : Content). entry_of b.loose c) content

-- ---- all entries

lawful_all : (config : Configuration) (before acts : List Act) → IsLawful config before → LawfulFrom config before acts → IsLawful config (before ++ acts)
lawful_all config before [] lawful h = subst (IsLawful config) (sym (append-nil before)) lawful
lawful_all config before (x ∷ xs) lawful h = subst (IsLawful config) (append_assoc before (x ∷ []) xs) (lawful_all config (before ++ x ∷ []) xs (lawful-push config before x lawful h.0) h.1)

lawful_on : (config : Configuration) (before : List Act) (content : Content) → IsLawful config before → IsLawfulContent config before content → IsLawful config (before ++ acts_in content)
lawful_on config before (did act) lawful h = lawful-push config before act lawful h
lawful_on config before (did_all acts) lawful h = lawful_all config before acts lawful h
lawful_on config before (closed last) lawful h = subst (IsLawful config) (sym (append-nil before)) lawful

pub one_list : (config : Configuration) (before : List Act) → IsLegal config → IsLawful config before → (xs ys : List Entry) → AreLawful config before xs → AreLawful config before ys → payloads_of xs ≡ payloads_of ys → xs ≡ ys
one_list config before legal lawful [] [] h k e = refl
one_list config before legal lawful [] (y ∷ ys) h k e = absurd cc
one_list config before legal lawful (x ∷ xs) [] h k e = absurd cc
one_list config before legal lawful (x ∷ xs) (y ∷ ys) h k e =
    let head : payload_of x ≡ payload_of y = cc in
    let tail : payloads_of xs ≡ payloads_of ys = cc in
    let same = one_entry config before legal lawful x y head h.0 k.0 in
    let rest = subst (λ (z : Entry). AreLawful config (before ++ acts_in z.content) xs) same h.1 in
    let more = one_list config (before ++ acts_in y.content) legal (lawful_on config before y.content lawful k.0.1) xs ys rest k.1 tail in
    ap (λ (z : Entry). z ∷ xs) same ∙ ap (λ (zs : List Entry). y ∷ zs) more

-- of lawful entries the first ones are lawful
pub lawful_front : (config : Configuration) (before : List Act) (xs ys : List Entry) → AreLawful config before (xs ++ ys) → AreLawful config before xs
lawful_front config before [] ys h = tt
lawful_front config before (x ∷ xs) ys h = (h.0, lawful_front config (before ++ acts_in x.content) xs ys h.1)
