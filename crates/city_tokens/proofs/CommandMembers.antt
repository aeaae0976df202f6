-- A command's members read so far, with one more; and the command of all of them.
use Rattle.city_tokens.proofs.Prelude.{◌≡◌, ℕ, List, false, Option, Some, None, refl, arith, is_some, codes, Data}
use Rattle.city_tokens.proofs.Prelude.{string, array, object, Members, no_members, put, items_of, Geometry, IsCommand}
use Rattle.city_tokens.proofs.Prelude.{Token, IsReadAs, IsTaken, IsValue}
use Rattle.city_tokens.specs.declared.command.CommandParts.{CommandParts}
use Rattle.city_tokens.specs.declared.command.Verb.{Verb}
use Rattle.city_tokens.specs.declared.command.Verb.TheVariants as verb
use Rattle.city_tokens.specs.declared.other.Other.{Other}
use Rattle.city_tokens.specs.declared.other.Other.TheVariants as other
use Rattle.city_tokens.specs.internal.Commands.{verb_name, with_verb, other_name, AreOthers, IsOther, IsCommandSoFar}
use Rattle.city_model.specs.declared.command.Command.TheVariants.{Unset, Reshape}
use Rattle.city_tokens.proofs.ResolvedParts.{strings_read}

unread : {A : Type 0} (o : Option A) → is_some o ≡ false → o ≡ None
unread o h = grind arith

-- a verb's, if there was none
pub verb_taken : (parts : CommandParts) (v : Verb) (copy text : List ℕ) {name : List ℕ} {depth : ℕ}
    {before after : List Token} → name ≡ verb_name v → copy ≡ text → is_some parts.verb ≡ false
    → IsValue depth before (string text) after
    → IsTaken IsCommandSoFar parts (record parts { verb = Some (v, copy) }) name depth before after
verb_taken parts v copy text named same none read =
    (string text, read, λ found kept h. (h.0, rw (named, ← same, h.1, unread parts.verb none) refl, h.2))

-- it may come before the verb's or after it
other_last : (verb : Option (Verb × List ℕ)) (o : Other) (d : Data)
    → put (other_name o) d (with_verb verb no_members) ≡ with_verb verb (put (other_name o) d no_members)
other_last verb o d = grind arith

-- the one beside the verb's, if there was none
pub other_taken : (parts : CommandParts) (o : Other) {name : List ℕ} {depth : ℕ} {before after : List Token}
    → name ≡ other_name o → is_some parts.other ≡ false → IsReadAs IsOther o depth before after
    → IsTaken IsCommandSoFar parts (record parts { other = Some o }) name depth before after
other_taken parts o named none read =
    let alone = unread parts.other none in
    let same = other_last parts.verb o read.0 in
    let others = put (other_name o) read.0 no_members in
    (read.0, read.1, λ _ _ h. (others, rw (named, h.1, (rw alone at h.2)) same, (read.0, refl, read.2)))

-- the commands of an array of names, and of geometries
pub unset_made : (id : List ℕ) (names : List (List ℕ)) (others : Members) → AreOthers (Some (other.Names names)) others
    → IsCommand (Unset id names) (object (with_verb (Some (verb.Unset, id)) others))
unset_made id names others is points =
    let items = items_of is.2.0 in
    rw (is.1, is.2.1, strings_read names (Some (array items)) (is.2.0, refl, is.2.2)) refl

pub reshape_made : (id : List ℕ) (geometry : List Geometry) (others : Members)
    → AreOthers (Some (other.Geometry geometry)) others
    → IsCommand (Reshape id geometry) (object (with_verb (Some (verb.Reshape, id)) others))
reshape_made id geometry others is =
    let named = put (codes "geometry") is.0 no_members in
    rw is.1 (object (with_verb (Some (verb.Reshape, id)) named), refl, is.2)
