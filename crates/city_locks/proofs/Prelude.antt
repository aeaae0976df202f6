-- The words shared by the proofs of this crate: from std, from the libraries and from its own definitions.
pub use Rattle.std.proofs.Common.{List, None, Ok, Result, Some, [], ap, arith, cond, drop, false, get_or, length, refl}
pub use Rattle.std.proofs.Common.{rules, sym, take, true, ℕ, ◌&&◌, ◌++◌, ◌+◌, ◌<◌, ◌==◌, ◌||◌, ◌∙◌, ◌∷◌, ◌≡◌, ◌≢◌}
pub use Rattle.std.proofs.lemmas.Map.Steps.{set_value_same}
pub use Rattle.std.specs.BTreeMap.{is_at}
pub use Rattle.std.specs.List.{list_all, list_any}
pub use Rattle.city_members.proofs.Ids.{same_id_back, same_id_itself, same_id_true}
pub use Rattle.city_model.specs.Chunks.{ids_left}
pub use Rattle.city_model.specs.CityMap.{has_id, same_id}
pub use Rattle.city_model.specs.Meaning.{exclusively}
pub use Rattle.city_model.specs.declared.mode.Mode.{Mode}
pub use Rattle.city_locks.specs.Asking.{Asked, first_answer, first_ungranted}
pub use Rattle.city_locks.specs.Holders.{answer_among, gives_way, in_conflict, mode_among, with_holder, without}
pub use Rattle.city_locks.specs.Locks.{Lawful, Locks, answer_of, holders_of, mode_of}
pub use Rattle.city_locks.specs.Mode.{stronger}
pub use Rattle.city_locks.specs.WaitDie.{IsInConflict, IsWaitDie}
pub use Rattle.city_locks.specs.declared.answer.Answer.{Answer}
pub use Rattle.city_locks.specs.declared.answer.Answer.TheVariants.{Die, Granted, Wait}
pub use Rattle.city_locks.specs.declared.holders.Holder.{Holder}
pub use Rattle.city_locks.specs.internal.Listing.{ids_of}
