-- What came of a request is given out.
use Rattle.std.specs.Prelude.{◌≡◌, ◌++◌, ◌∷◌, ℕ, List, [], Option, All, false, suc, refl}
use Rattle.std.proofs.Common.{◌∙◌, sym, ap, subst, arith}
use Rattle.std.proofs.lemmas.Bool.{false≢true}
use Rattle.std.proofs.lemmas.List.{append-nil, append_assoc}
use Rattle.city_txn.specs.CoreState.{committed}
use Rattle.city_session.specs.Live.{SessionState}
use Rattle.city_live.specs.declared.answer.Answer.{Answer}
use Rattle.city_live.specs.Continuing.{Continues}
use Rattle.city_live.specs.Replaying.{Notes}
use Rattle.city_live.specs.declared.ghosts.event.Event.TheVariants as events
use Rattle.city_live.specs.declared.request.Request.{Request}
use Rattle.city_live.specs.Heard.{heard}
use Rattle.city_live.specs.declared.ghosts.event.Event.{Event}
use Rattle.city_live.specs.Serving.{Served, Arrives, HasAsked, Proceeds, IsHandled, told_in, is_coming, Sent, sent_by}
use Rattle.city_live.specs.Serving.{AreHandled, sent_in}
use Rattle.city_live.proofs.Continued as continued
use Rattle.city_live.proofs.Followed.{told_both}
use Rattle.city_live.proofs.Replayed.{notes_then, stays_so}
use Rattle.city_live.proofs.Hearing.{came_more}

pub arrived_asked : {s u : Served} {by : List ℕ} {tag : Option (List ℕ)} {request : Request}
    → Arrives by tag request s u → HasAsked by tag request u
arrived_asked {s} {u} {by} {tag} {request} a = record {
  came = ap (λ l. (heard l).came) a.events ∙ came_more s.events (events.Comes by tag request);
}

pub handled : (by : List ℕ) (tag : Option (List ℕ)) (request : Request) (s t u v : Served) (answers : List Answer)
    → Arrives by tag request s t → Proceeds t u → answers ≡ u.answers → v.session ≡ u.session
    → v.events ≡ u.events → v.answers ≡ [] → v.noted ≡ u.noted → v.first ≡ u.first
    → IsHandled by tag request answers s v
handled by tag request s t u v answers a f given session same none noted first = record {
  more = f.more;
  events = same ∙ (f.events ∙ (ap (λ l. l ++ f.more) a.events
      ∙ append_assoc s.events (events.Comes by tag request ∷ []) f.more));
  alone = f.alone;
  told = given ∙ (f.answers ∙ ap (λ l. l ++ told_in f.more) a.answers);
  given = none;
  continues = subst (Continues s.session) (sym session)
      (subst (λ x. Continues x u.session) a.session f.continues);
  notes = subst (λ o. Notes s.noted o (committed s.session.core) (committed v.session.core)) (sym noted)
      (subst (λ (x : SessionState). Notes s.noted u.noted (committed s.session.core) (committed x.core)) (sym session)
      (subst (λ o. Notes o u.noted (committed s.session.core) (committed u.session.core)) a.noted
      (subst (λ (x : SessionState). Notes t.noted u.noted (committed x.core) (committed u.session.core)) a.session
      f.notes)));
  first = first ∙ (f.first ∙ a.first);
}

-- ---- requests, one after another

pub sent_both : (es fs : List Event) → sent_in (es ++ fs) ≡ sent_in es ++ sent_in fs
sent_both [] fs = refl
sent_both (e ∷ es) fs =
    ap (λ l. sent_by e ++ l) (sent_both es fs) ∙ sym (append_assoc (sent_by e) (sent_in es) (sent_in fs))

none_sent : (e : Event) → is_coming e ≡ false → sent_by e ≡ []
none_sent (events.Comes hand tag r) h = absurd (false≢true (sym h))
none_sent e h = refl

none_among : (es : List Event) → All (λ e. is_coming e ≡ false) es → sent_in es ≡ []
none_among [] all = refl
none_among (e ∷ es) all =
    ap (λ l. l ++ sent_in es) (none_sent e (all 0 e (omega arith)))
    ∙ none_among es (λ k d l. all (suc k) d (omega (arith, l)))

pub handled_none : {s u : Served} (answers : List Answer) → answers ≡ s.answers → u.session ≡ s.session
    → u.events ≡ s.events → u.answers ≡ [] → u.noted ≡ s.noted → u.first ≡ s.first → AreHandled [] answers s u
handled_none {s} {u} answers told session same none noted first = record {
  more = [];
  events = same ∙ sym (append-nil s.events);
  requests_are = refl;
  told = told ∙ sym (append-nil s.answers);
  given = none;
  continues = subst (Continues s.session) (sym session) (continued.same s.session);
  notes = stays_so noted (ap (λ (x : SessionState). committed x.core) session);
  first = first;
}

pub handled_more : {s t u : Served} {rs : List Sent} {xs ys zs : List Answer} (r : Sent) → AreHandled rs xs s t
    → IsHandled r.0 r.1 r.2 ys t u → zs ≡ xs ++ ys → AreHandled (rs ++ r ∷ []) zs s u
handled_more {s} {t} {u} {rs} {xs} {ys} r a b both = record {
  more = a.more ++ events.Comes r.0 r.1 r.2 ∷ b.more;
  events = b.events ∙ (ap (λ l. l ++ events.Comes r.0 r.1 r.2 ∷ b.more) a.events
      ∙ append_assoc s.events a.more (events.Comes r.0 r.1 r.2 ∷ b.more));
  requests_are = sent_both a.more (events.Comes r.0 r.1 r.2 ∷ b.more)
      ∙ (ap (λ l. l ++ r ∷ sent_in b.more) a.requests_are
      ∙ ap (λ l. rs ++ r ∷ l) (none_among b.more b.alone));
  told = both ∙ (ap (λ l. l ++ ys) a.told
      ∙ (append_assoc s.answers (told_in a.more) ys
      ∙ (ap (λ l. s.answers ++ (told_in a.more ++ l)) (b.told ∙ ap (λ l. l ++ told_in b.more) a.given)
      ∙ ap (λ l. s.answers ++ l) (sym (told_both a.more (events.Comes r.0 r.1 r.2 ∷ b.more))))));
  given = b.given;
  continues = continued.then a.continues b.continues;
  notes = notes_then a.notes b.notes;
  first = b.first ∙ a.first;
}
