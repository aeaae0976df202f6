use Rattle.std.proofs.Common.{◌≡◌, ◌+◌, ◌-◌, drop, length, sym, ap, ◌∙◌, arith}
use Rattle.std.proofs.lemmas.List.{drop-drop, length-drop}
use Rattle.city_reader.proofs.cursor.Cursor.pass.Goals as goal

pub invariant_of-self : goal.invariant_of-self
invariant_of-self c =
    let a = c.self.inside in
    let t = c.args.text.now in
    let rest : drop a.at a.text.now ≡ drop c.args.from t = c.self.view_is ∙ c.is_at.ensures c.if-not-is_at.false in
    let long = ap length rest in
    record {
      utf8 = c.self.invariant.utf8;
      within = omega (
        arith,
        long,
        length-drop a.at a.text.now,
        length-drop c.args.from t,
        c.self.invariant.within,
        c.if-self-from.false,
        c.if-to-from.false,
        c.if-to-text.false,
      );
    }

pub returns : goal.returns
returns c =
    let a = c.self.inside in
    let d = a.text.now in
    let t = c.args.text.now in
    let from = c.args.from in
    let to = c.args.to in
    let here : c.args.self.now ≡ drop from t = c.is_at.ensures c.if-not-is_at.false in
    let rest : drop from d ≡ drop from t = ap (λ k. drop k d) (sym c.if-self-from.false) ∙ c.self.view_is ∙ here in
    let there : from + (to - from) ≡ to = omega (arith, c.if-to-from.false) in
    let on : drop to d ≡ drop to t = ap (λ k. drop k d) (sym there) ∙ sym (drop-drop (to - from) from d)
    ∙ ap (drop (to - from)) rest ∙ drop-drop (to - from) from t ∙ ap (λ k. drop k t) there in
    (here, on)
