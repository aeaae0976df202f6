-- An array of texts is read as the texts among its items.
use Rattle.city_scripts.proofs.Prelude.{◌≡◌, false, Some, refl, arith, is_none, as_str, Items, no_items, item}
use Rattle.city_scripts.proofs.Prelude.{read_items}
use Rattle.city_scripts.specs.internal.Forms.{texts_among}

pub texts_read : (ds : Items) → is_none (read_items as_str ds) ≡ false → read_items as_str ds ≡ Some (texts_among ds)
texts_read no_items h = refl
texts_read (item d ds) h = grind (arith, texts_read ds)
