-- The definitions at small texts, by computation.
use Rattle.std.proofs.Common.{◌≡◌, true, false, [], ◌∷◌, refl}
use Rattle.std.specs.Prelude.{codes}
use Rattle.kv_keys.specs.Grammar.{is_name, is_key, is_filter, are_filters, parts}
use Rattle.kv_keys.specs.Matching.{tokens, matches, any_matches}
use Rattle.kv_keys.specs.Places.{fnv32_of}

-- the published values of FNV-1a with 32 bits, and two pairs of texts that share one
hash_of_none : fnv32_of [] ≡ 0x811c9dc5
unfolding fnv32_of
hash_of_none = refl

hash_of_a : fnv32_of (codes "a") ≡ 0xe40c292c
unfolding fnv32_of
hash_of_a = refl

hash_of_al : fnv32_of (codes "al") ≡ 0x3f24efc0
unfolding fnv32_of
hash_of_al = refl

hash_of_foobar : fnv32_of (codes "foobar") ≡ 0xbf9cf968
unfolding fnv32_of
hash_of_foobar = refl

hash_of_altarag : fnv32_of (codes "altarag") ≡ 0xbd1b8e57
unfolding fnv32_of
hash_of_altarag = refl

hash_of_zink : fnv32_of (codes "zink") ≡ 0xbd1b8e57
unfolding fnv32_of
hash_of_zink = refl

hash_of_altarage : fnv32_of (codes "altarage") ≡ 0xe460d8b6
unfolding fnv32_of
hash_of_altarage = refl

hash_of_zinke : fnv32_of (codes "zinke") ≡ 0xe460d8b6
unfolding fnv32_of
hash_of_zinke = refl

-- tokens, also empty ones
tokens_of_two : tokens (codes "a.b") ≡ codes "a" ∷ codes "b" ∷ []
tokens_of_two = refl

tokens_of_dot : tokens (codes ".") ≡ [] ∷ [] ∷ []
tokens_of_dot = refl

tokens_of_none : tokens [] ≡ [] ∷ []
tokens_of_none = refl

-- `*` is one token
star_is_one : matches (codes "a.*") (codes "a.b") ≡ true
unfolding matches
star_is_one = refl

star_is_not_two : matches (codes "a.*") (codes "a.b.c") ≡ false
unfolding matches
star_is_not_two = refl

star_is_not_none : matches (codes "a.*") (codes "a") ≡ false
unfolding matches
star_is_not_none = refl

star_at_first : matches (codes "*.b.>") (codes "a.b.c") ≡ true
unfolding matches
star_at_first = refl

-- `>` is one or more tokens
rest_is_one : matches (codes "a.>") (codes "a.b") ≡ true
unfolding matches
rest_is_one = refl

rest_is_two : matches (codes "a.>") (codes "a.b.c") ≡ true
unfolding matches
rest_is_two = refl

rest_is_not_none : matches (codes "a.>") (codes "a") ≡ false
unfolding matches
rest_is_not_none = refl

rest_alone : matches (codes ">") (codes "a.b.c") ≡ true
unfolding matches
rest_alone = refl

-- a literal is itself, and not a part of a token
literal_is_itself : matches (codes "a.b") (codes "a.b") ≡ true
unfolding matches
literal_is_itself = refl

literal_is_whole : matches (codes "a") (codes "ab") ≡ false
unfolding matches
literal_is_whole = refl

-- a list matches by any of its filters
second_matches : any_matches (codes "b" ∷ codes "a.*" ∷ []) (codes "a.c") ≡ true
unfolding matches
second_matches = refl

-- keys
key_of_tokens : is_key (codes "_kv.a-b/C=9") ≡ true
unfolding is_key
key_of_tokens = refl

empty_is_no_key : is_key [] ≡ false
unfolding is_key
empty_is_no_key = refl

first_dot_is_no_key : is_key (codes ".a") ≡ false
unfolding is_key
first_dot_is_no_key = refl

last_dot_is_no_key : is_key (codes "a.") ≡ false
unfolding is_key
last_dot_is_no_key = refl

double_dot_is_no_key : is_key (codes "a..b") ≡ false
unfolding is_key
double_dot_is_no_key = refl

star_is_no_key : is_key (codes "a*b") ≡ false
unfolding is_key
star_is_no_key = refl

-- filters
filter_of_all : is_filter (codes "a.*.>") ≡ true
unfolding is_filter
filter_of_all = refl

star_beside_others : is_filter (codes "a*") ≡ false
unfolding is_filter
star_beside_others = refl

rest_beside_others : is_filter (codes "a.b>") ≡ false
unfolding is_filter
rest_beside_others = refl

rest_in_the_middle : is_filter (codes "a.>.b") ≡ false
unfolding is_filter
rest_in_the_middle = refl

empty_token : is_filter (codes "a..>") ≡ false
unfolding is_filter
empty_token = refl

-- lists of filters
list_of_two : are_filters (parts (codes "a.*,*.b")) ≡ true
unfolding are_filters is_filter
list_of_two = refl

empty_part : are_filters (parts (codes "a,,b")) ≡ false
unfolding are_filters is_filter
empty_part = refl

comma_at_the_end : are_filters (parts (codes "a,")) ≡ false
unfolding are_filters is_filter
comma_at_the_end = refl

sixteen : are_filters (parts (codes "a,a,a,a,a,a,a,a,a,a,a,a,a,a,a,a")) ≡ true
unfolding are_filters is_filter
sixteen = refl

seventeen : are_filters (parts (codes "a,a,a,a,a,a,a,a,a,a,a,a,a,a,a,a,a")) ≡ false
unfolding are_filters is_filter
seventeen = refl

-- names of buckets
name_of_a_bucket : is_name (codes "Bucket_1-b") ≡ true
unfolding is_name
name_of_a_bucket = refl

name_with_a_dot : is_name (codes "a.b") ≡ false
unfolding is_name
name_with_a_dot = refl
