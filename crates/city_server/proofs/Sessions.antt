-- A session over the model that it was started with.
use Rattle.std.proofs.Common.{◌≡◌, ℕ, Bool, List, Option, subst}
use Rattle.city_live.specs.Serving.{Served}
use Rattle.city_model.specs.CityMap.{CityValue}
use Rattle.city_server.specs.Lived.{AreAllAnswered, AreFirstAnswered, IsReady, IsSession}
use Rattle.city_server.specs.declared.telling.Telling.{Telling}

pub session_all : {program : List ℕ} {decimals : Bool} {city : CityValue} {version : ℕ} {s : Served}
    {told : Telling} {input left old new : Option (List ℕ)} → IsReady program decimals city version s told
    → AreAllAnswered told.decimals told.answers.items s input left old new
    → IsSession program (λ first v. AreAllAnswered decimals first v input left old new)
session_all
    {decimals = decimals} {city = city} {version = version} {s = s} {told = told} {input = input} {left = left}
    {old = old} {new = new} ready h =
    record {
      city = city;
      version = version;
      opened = s;
      is_opened = ready.opened;
      is = subst (λ first. AreAllAnswered decimals first s input left old new) ready.answers
          (subst (λ d. AreAllAnswered d told.answers.items s input left old new) ready.decimals_is h);
    }

pub session_first : {program : List ℕ} {decimals : Bool} {city : CityValue} {version : ℕ} {s : Served}
    {told : Telling} {input left old new : Option (List ℕ)} → IsReady program decimals city version s told
    → AreFirstAnswered told.decimals told.answers.items s input left old new
    → IsSession program (λ first v. AreFirstAnswered decimals first v input left old new)
session_first
    {decimals = decimals} {city = city} {version = version} {s = s} {told = told} {input = input} {left = left}
    {old = old} {new = new} ready h =
    record {
      city = city;
      version = version;
      opened = s;
      is_opened = ready.opened;
      is = subst (λ first. AreFirstAnswered decimals first s input left old new) ready.answers
          (subst (λ d. AreFirstAnswered d told.answers.items s input left old new) ready.decimals_is h);
    }
